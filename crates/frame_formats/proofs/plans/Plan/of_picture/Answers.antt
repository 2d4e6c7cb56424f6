-- The first edit has its frames wherever memory is asked for.
use Rattle.std.proofs.Common.{None, refl}
use Rattle.frame_formats.proofs.StepsEach.{at_memory, starts_as}
use Rattle.frame_formats.proofs.plans.Plan.of_picture.Goals as goal

pub returns-in_err-targets-clause-memory : goal.returns-in_err-targets-clause-memory
returns-in_err-targets-clause-memory c =
    at_memory c.from_residual-in_err-targets.result (starts_as _ _ None None c.args.picture.width c.args.picture.height c.args.steps.now _ c.unit_of_picture-unit.ensures.unit refl c.in_ok-settled.ensures.steps)
