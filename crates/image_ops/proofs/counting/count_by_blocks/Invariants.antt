use Rattle.std.proofs.Common.{length}
use Rattle.image_ops.proofs.CountedUpto.{IsCountedUpto}
use Rattle.image_ops.proofs.counting.count_by_blocks.Given as goal

abbrev pub invariant-loop-rest : goal.invariant-loop-rest
invariant-loop-rest g l = IsCountedUpto (goal.F-post g l.f) l.row l.rest l.count

abbrev pub decreases-loop-rest : goal.decreases-loop-rest
decreases-loop-rest g l = length l.rest
