use Rattle.std.proofs.Common.{◌≡◌, length}
use Rattle.image_writes.specs.Gathered.{AreGathered, mirrored_place}
use Rattle.image_turns.proofs.flipping.reverse_few.Given as goal

abbrev pub invariant-loop-x : goal.invariant-loop-x
invariant-loop-x g l = record {
  as_many : length l.row ≡ length l.initial.row;
  crossed : AreGathered (mirrored_place (length l.initial.row) 0 l.x) l.initial.row l.row;
}
