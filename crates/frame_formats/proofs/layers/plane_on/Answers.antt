-- One step after the other.
use Rattle.std.proofs.Common.{arith}
use Rattle.std.proofs.lemmas.Grind.{common_steps}
use Rattle.frame_formats.specs.Layers.{change_on}
use Rattle.frame_formats.specs.Steps.{step_by}
use Rattle.frame_formats.proofs.StepsEach.{all_done}
use Rattle.frame_formats.proofs.layers.plane_on.Goals as goal

pub returns-clause-plane : goal.returns-clause-plane
returns-clause-plane c =
    rw (all_done (step_by (change_on c.args.pixel c.args.layer c.args.width c.args.height)) c.loop-step.made.items c.args.steps.now c.loop-step.step-index _ (omega arith) c.loop-step.invariant.left) (grind (arith, common_steps))

pub returns-clause-fault : goal.returns-clause-fault
returns-clause-fault c =
    rw (all_done (step_by (change_on c.args.pixel c.args.layer c.args.width c.args.height)) c.loop-step.made.items c.args.steps.now c.loop-step.step-index _ (omega arith) c.loop-step.invariant.left) (grind (arith, common_steps))
