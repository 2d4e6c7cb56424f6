use Rattle.std.proofs.Common.{◌≡◌, ◌+◌, ◌*◌, length}
use Rattle.imgref.specs.Words.{Flooding, SameOutside, shaped}
use Rattle.image_regions.specs.Pending.{CanFill, cell_grid, places_left, to_look_at}
use Rattle.image_regions.proofs.floods.fill_from.Given as goal

abbrev pub invariant-loop-count : goal.invariant-loop-count
invariant-loop-count g l = CanFill l.fill g.T.PartialEq.eq l.cells l.count l.room
    × SameOutside (shaped l.fn.cells l.fill.shape) (shaped l.cells l.fill.shape)
    × (length l.room ≡ length l.fn.room)
    × Flooding (cell_grid l.fill l.fn.cells) l.fn.place.0 l.fn.place.1 l.fill.value (cell_grid l.fill l.cells) (to_look_at l.fill l.count l.room)

abbrev pub decreases-loop-count : goal.decreases-loop-count
decreases-loop-count g l = 2 * places_left l.fill g.T.PartialEq.eq l.cells + l.count
