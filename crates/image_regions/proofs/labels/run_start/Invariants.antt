use Rattle.std.proofs.Common.{◌≤◌, true}
use Rattle.image_regions.specs.Runs.{ShowsAlong, open_places}
use Rattle.image_regions.proofs.labels.run_start.Given as goal

abbrev pub invariant-loop-start : goal.invariant-loop-start
invariant-loop-start g l = (l.start ≤ l.fn.x) × ShowsAlong (open_places l.search g.T.PartialEq.eq l.labels) true l.y l.start l.fn.x

abbrev pub decreases-loop-start : goal.decreases-loop-start
decreases-loop-start g l = l.start
