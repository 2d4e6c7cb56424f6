use Rattle.std.proofs.Common.{◌<◌, ℕ, true}
use Rattle.image_ops.specs.Pairs.{PairAnswers}
use Rattle.image_ops.proofs.pairs.agree.Given as goal

abbrev pub invariant-loop-k : goal.invariant-loop-k
invariant-loop-k g l = (k : ℕ) → k < l.k → PairAnswers (goal.F-post g l.f) l.first l.second k true
