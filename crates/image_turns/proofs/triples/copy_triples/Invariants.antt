use Rattle.std.proofs.Common.{◌*◌, length}
use Rattle.image_turns.specs.Triples.{triple_back}
use Rattle.image_writes.proofs.Gathering.{GatheredTo}
use Rattle.image_turns.proofs.triples.copy_triples.Given as goal

abbrev pub invariant-loop-k : goal.invariant-loop-k
invariant-loop-k g l = GatheredTo (triple_back (length l.fn.cells)) l.source l.fn.cells l.cells (3 * l.k)
