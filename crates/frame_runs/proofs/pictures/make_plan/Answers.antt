-- Where no plan is made, memory is needed; a plan that is made is kept.
use Rattle.std.proofs.Common.{arith}
use Rattle.frame_runs.proofs.Starts.{plan_needs, picture_starts}
use Rattle.frame_runs.proofs.pictures.make_plan.Goals as goal

pub returns-then-is_over-clause-stops : goal.returns-then-is_over-clause-stops
returns-then-is_over-clause-stops c = grind (arith, plan_needs, picture_starts)

pub returns-then-is_err-clause-stops : goal.returns-then-is_err-clause-stops
returns-then-is_err-clause-stops c = grind (arith, plan_needs, picture_starts)

pub returns-in_default-scratch-clause-stops : goal.returns-in_default-scratch-clause-stops
returns-in_default-scratch-clause-stops c = grind (arith, plan_needs, picture_starts)

pub returns-clause-kept : goal.returns-clause-kept
returns-clause-kept c = grind (arith, plan_needs, picture_starts)
