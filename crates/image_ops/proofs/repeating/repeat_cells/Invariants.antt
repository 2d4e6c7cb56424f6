-- The cells so far have the pattern.
use Rattle.image_ops.proofs.Patterns.{RepeatedUpto}
use Rattle.image_ops.proofs.repeating.repeat_cells.Given as goal

abbrev pub invariant-loop-x : goal.invariant-loop-x
invariant-loop-x g l = RepeatedUpto l.pattern l.fn.row l.row l.x
