use Rattle.std.proofs.Common.{◌≡◌, ◌∷◌, ◌++◌, length}
use Rattle.std.specs.List.{flat_map}
use Rattle.std.specs.Fmt.{decimal}
use Rattle.std.specs.Io.{StartsWith}
use Rattle.texts.proofs.writing.push_pixels.Given as goal

-- the cells before those that are left are written
abbrev pub invariant-loop-rest : goal.invariant-loop-rest
invariant-loop-rest l = record {
  text : l.text.items ++ flat_map (λ cell. 32 ∷ decimal cell) l.rest ≡ l.initial.text.items ++ flat_map (λ cell. 32 ∷ decimal cell) l.cells;
  len : length l.block ≡ length l.initial.block;
  kept : StartsWith l.text.items l.initial.text.items;
}

abbrev pub decreases-loop-rest : goal.decreases-loop-rest
decreases-loop-rest l = length l.rest
