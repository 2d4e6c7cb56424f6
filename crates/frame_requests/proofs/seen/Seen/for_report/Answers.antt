-- The shapes that are kept change nothing of what is seen.
use Rattle.std.proofs.Common.{rules}
use Rattle.frame_requests.proofs.KeptShapes.{none_kept}
use Rattle.frame_requests.proofs.seen.Seen.for_report.Goals as goal

pub returns-clause-sees : goal.returns-clause-sees
returns-clause-sees c steps =
    let sees = c.nothing.ensures.sees steps in
    record { last_shape = sees.last_shape; last = sees.last; within = sees.within; knows = sees.knows; kept = none_kept _ _ (search rules) }
