use Rattle.std.proofs.Common.{◌<◌, ◌^◌, length}
use Rattle.std.specs.List.{flat_map}
use Rattle.image_model.specs.Rows.{grid_pixels}
use Rattle.image_rows.specs.Rows.{refs_left}
use Rattle.image_shape.specs.Shape.{shaped_grid}
use Rattle.image_ops.proofs.CountedUpto.{IsCountedUpto}
use Rattle.image_ops.proofs.counting.count_pixels.Given as goal

abbrev pub invariant-loop-row : goal.invariant-loop-row
invariant-loop-row g l =
    (goal.iterator-loop-row g).can_next l.row-iterator × (goal.iterator-loop-row g).is_finite l.row-iterator ×
    (length (grid_pixels (shaped_grid l.fn.cells l.fn.shape)) < 2 ^ 64) ×
    IsCountedUpto (goal.F-post g l.f) (grid_pixels (shaped_grid l.fn.cells l.fn.shape)) (flat_map (λ r. r) (refs_left l.row-iterator)) l.count
