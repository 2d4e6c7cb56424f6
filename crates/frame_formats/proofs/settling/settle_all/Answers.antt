-- One edit after the other.
use Rattle.std.proofs.Common.{arith}
use Rattle.frame_formats.specs.Steps.{step_in}
use Rattle.frame_formats.proofs.StepsEach.{all_done}
use Rattle.frame_formats.proofs.settling.settle_all.Goals as goal

pub returns-clause-steps : goal.returns-clause-steps
returns-clause-steps c =
    all_done (step_in c.args.unit c.args.rate c.args.width c.args.height) c.loop-edit.all.items c.args.edits.now c.loop-edit.edit-index _ (omega arith) c.loop-edit.invariant.left
