-- The rows before these are counted.
use Rattle.std.proofs.Common.{◌≡◌, ◌+◌, ◌≤◌, ◌<◌, ◌^◌, length, sum_by}
use Rattle.std.specs.List.{flat_map}
use Rattle.image_model.specs.Rows.{grid_pixels}
use Rattle.image_rows.specs.Rows.{refs_left}
use Rattle.image_shape.specs.Shape.{shaped_grid}
use Rattle.image_ops.specs.PixelCounts.{times_in_row, times_shown}
use Rattle.image_ops.proofs.pixel_counting.count_in_rows.Given as goal

abbrev pub invariant-loop-row : goal.invariant-loop-row
invariant-loop-row g l =
    (goal.iterator-loop-row g).can_next l.row-iterator × (goal.iterator-loop-row g).is_finite l.row-iterator ×
    (length (grid_pixels (shaped_grid l.fn.cells l.fn.shape)) < 2 ^ 64) ×
    (l.count + length (flat_map (λ r. r) (refs_left l.row-iterator)) ≤ length (grid_pixels (shaped_grid l.fn.cells l.fn.shape))) ×
    (l.count + sum_by (times_in_row g.T.PartialEq.eq l.value) (refs_left l.row-iterator) ≡ times_shown g.T.PartialEq.eq l.value (shaped_grid l.fn.cells l.fn.shape))
