-- The first edit has its frames wherever memory is asked for.
use Rattle.frame_formats.proofs.StepsEach.{at_memory, starts_as}
use Rattle.frame_formats.proofs.plans.Plan.of_video.Goals as goal

pub returns-in_err-planes-clause-memory : goal.returns-in_err-planes-clause-memory
returns-in_err-planes-clause-memory c = at_memory c.from_residual-in_err-planes.result (starts_as _ _ _ _ c.args.format.width c.args.format.height c.args.steps.now _ c.unit_of_video-unit.ensures.unit c.read_rate.ensures c.in_ok-settled.ensures.steps)

pub returns-in_err-ended_line-clause-memory : goal.returns-in_err-ended_line-clause-memory
returns-in_err-ended_line-clause-memory c = at_memory c.from_residual-in_err-ended_line.result (starts_as _ _ _ _ c.args.format.width c.args.format.height c.args.steps.now _ c.unit_of_video-unit.ensures.unit c.read_rate.ensures c.in_ok-settled.ensures.steps)

pub returns-in_default-clause-memory : goal.returns-in_default-clause-memory
returns-in_default-clause-memory c = at_memory c.new.result (starts_as _ _ _ _ c.args.format.width c.args.format.height c.args.steps.now _ c.unit_of_video-unit.ensures.unit c.read_rate.ensures c.in_ok-settled.ensures.steps)

pub returns-in_err-targets-clause-memory : goal.returns-in_err-targets-clause-memory
returns-in_err-targets-clause-memory c = at_memory c.from_residual-in_err-targets.result (starts_as _ _ _ _ c.args.format.width c.args.format.height c.args.steps.now _ c.unit_of_video-unit.ensures.unit c.read_rate.ensures c.in_ok-settled.ensures.steps)

pub returns-in_err-head-clause-memory : goal.returns-in_err-head-clause-memory
returns-in_err-head-clause-memory c = at_memory c.from_residual-in_err-head.result (starts_as _ _ _ _ c.args.format.width c.args.format.height c.args.steps.now _ c.unit_of_video-unit.ensures.unit c.read_rate.ensures c.in_ok-settled.ensures.steps)

pub returns-clause-memory : goal.returns-clause-memory
returns-clause-memory c = at_memory c.new-2.result (starts_as _ _ _ _ c.args.format.width c.args.format.height c.args.steps.now _ c.unit_of_video-unit.ensures.unit c.read_rate.ensures c.in_ok-settled.ensures.steps)
