use Rattle.std.proofs.Common.{◌≡◌, ◌*◌, length}
use Rattle.image_writes.specs.Gathered.{AreGathered, mirrored_place}
use Rattle.image_turns.proofs.flipping.reverse_row.Given as goal

abbrev pub invariant-loop-block : goal.invariant-loop-block
invariant-loop-block g l = record {
  as_many : length l.row ≡ length l.initial.row;
  crossed : AreGathered (mirrored_place (length l.initial.row) 0 (16 * l.block)) l.initial.row l.row;
}
