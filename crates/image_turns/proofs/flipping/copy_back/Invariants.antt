use Rattle.std.proofs.Common.{◌-◌, length}
use Rattle.image_writes.proofs.Gathering.{GatheredTo}
use Rattle.image_turns.proofs.flipping.copy_back.Given as goal

abbrev pub invariant-loop-k : goal.invariant-loop-k
invariant-loop-k g l = GatheredTo (λ k. length l.fn.cells - 1 - k) l.source l.fn.cells l.cells l.k
