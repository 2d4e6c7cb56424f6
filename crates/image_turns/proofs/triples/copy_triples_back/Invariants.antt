use Rattle.std.proofs.Common.{◌*◌, length, min}
use Rattle.image_turns.specs.Triples.{triple_back}
use Rattle.image_writes.proofs.Gathering.{GatheredTo}
use Rattle.image_turns.proofs.triples.copy_triples_back.Given as goal

abbrev pub invariant-loop-block : goal.invariant-loop-block
invariant-loop-block g l = GatheredTo (triple_back (length l.fn.cells)) l.source l.fn.cells l.cells (min (48 * l.block) (length l.fn.cells))
