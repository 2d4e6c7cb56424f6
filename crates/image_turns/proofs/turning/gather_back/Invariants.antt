use Rattle.std.proofs.Common.{◌-◌, ◌*◌}
use Rattle.image_writes.proofs.Gathering.{GatheredTo}
use Rattle.image_turns.proofs.turning.gather_back.Given as goal

abbrev pub invariant-loop-k : goal.invariant-loop-k
invariant-loop-k g l = GatheredTo (λ k. l.start - k * l.step) l.source l.fn.cells l.cells l.k
