use Rattle.std.proofs.Common.{◌≡◌, ◌+◌, Some, length}
use Rattle.imgref.specs.Words.{SameOutside, places_with, shaped}
use Rattle.image_regions.specs.Runs.{CanSpread, IsSpreading, label_grid, no_run}
use Rattle.image_regions.proofs.labels.label_region.Given as goal

abbrev pub invariant-loop-count : goal.invariant-loop-count
invariant-loop-count g l = CanSpread l.search l.labels l.count l.room
    × SameOutside (shaped l.fn.labels l.search.shape) (shaped l.labels l.search.shape)
    × (length l.room ≡ length l.fn.room)
    × ((label_grid l.search l.labels).pixel l.x l.y ≡ Some l.search.label)
    × IsSpreading l.search g.T.PartialEq.eq l.x l.y l.fn.labels l.labels l.count l.room no_run

abbrev pub decreases-loop-count : goal.decreases-loop-count
decreases-loop-count g l = places_with 0 (label_grid l.search l.labels) + l.count
