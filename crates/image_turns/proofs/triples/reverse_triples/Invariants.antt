use Rattle.std.proofs.Common.{◌≡◌, ◌*◌, length}
use Rattle.image_writes.specs.Gathered.{AreGathered}
use Rattle.image_turns.specs.Triples.{mirrored_triple}
use Rattle.image_turns.proofs.triples.reverse_triples.Given as goal

abbrev pub invariant-loop-block : goal.invariant-loop-block
invariant-loop-block g l = record {
  as_many : length l.row ≡ length l.initial.row;
  crossed : AreGathered (mirrored_triple (length l.initial.row) 0 (48 * l.block)) l.initial.row l.row;
}
