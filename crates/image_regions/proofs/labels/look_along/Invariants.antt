use Rattle.std.proofs.Common.{◌≢◌, ℕ, ◌-◌, ◌≤◌, ◌<◌, Some, true}
use Rattle.image_regions.specs.Runs.{AddsRuns, SpreadsOn, open_places}
use Rattle.image_regions.proofs.labels.look_along.Given as goal

abbrev pub invariant-loop-x : goal.invariant-loop-x
invariant-loop-x g l = AddsRuns l.search l.fn.labels l.fn.count l.fn.room l.labels l.count l.room
    × ((u : ℕ) → l.run.from ≤ u → u < l.x → (open_places l.search g.T.PartialEq.eq l.labels).pixel u l.run.y ≢ Some true)
    × SpreadsOn l.search g.T.PartialEq.eq l.run l.fn.labels l.fn.count l.fn.room l.labels l.count l.room
    × (l.run.from ≤ l.x)

abbrev pub decreases-loop-x : goal.decreases-loop-x
decreases-loop-x g l = l.run.to - l.x
