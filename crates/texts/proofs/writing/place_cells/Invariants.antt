use Rattle.std.proofs.Common.{◌≡◌, ◌∷◌, ◌≤◌, ◌*◌, take, length}
use Rattle.std.specs.List.{flat_map}
use Rattle.std.specs.Fmt.{decimal}
use Rattle.texts.proofs.writing.place_cells.Given as goal

abbrev pub invariant-loop-cell : goal.invariant-loop-cell
invariant-loop-cell l = record {
  text : take l.end l.block ≡ flat_map (λ cell. 32 ∷ decimal cell) (take l.cell-index l.cells);
  within : l.end ≤ 4 * l.cell-index;
  len : length l.block ≡ length l.fn.block;
}
