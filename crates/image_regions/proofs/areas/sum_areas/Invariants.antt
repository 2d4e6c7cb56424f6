use Rattle.std.proofs.Common.{◌≡◌}
use Rattle.imgref.specs.Words.{Fits, SameOutside, area_at, grid_of, line_sum, ref_grid, shaped, table_upto}
use Rattle.image_regions.proofs.areas.sum_areas.Given as goal

abbrev pub invariant-loop-y : goal.invariant-loop-y
invariant-loop-y l = Fits (shaped l.cells l.shape) × SameOutside (shaped l.fn.cells l.shape) (shaped l.cells l.shape)
    × (grid_of (shaped l.cells l.shape) ≡ table_upto (area_at (ref_grid l.fn.image)) 0 l.y (grid_of (shaped l.fn.cells l.shape)))

abbrev pub invariant-loop-x : goal.invariant-loop-x
invariant-loop-x l = Fits (shaped l.cells l.shape) × SameOutside (shaped l.fn.cells l.shape) (shaped l.cells l.shape)
    × (grid_of (shaped l.cells l.shape) ≡ table_upto (area_at (ref_grid l.fn.image)) l.x l.y (grid_of (shaped l.fn.cells l.shape))) × (l.line ≡ line_sum (ref_grid l.fn.image) l.x l.y)
