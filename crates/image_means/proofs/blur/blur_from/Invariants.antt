-- The rows before this one are done, and the sums are those of the box's rows around the one before.
use Rattle.std.proofs.Common.{◌≡◌, ◌<◌, ◌≤◌, ◌+◌, ◌-◌, ◌*◌, ℕ, min, Some, length}
use Rattle.image_model.specs.Rows.{row_count}
use Rattle.image_shape.specs.Shape.{shape_stride, shape_width, shape_height, shaped_grid}
use Rattle.image_means.specs.Blur.{box_mean, sum_at, column_upto, AreFactors}
use Rattle.image_means.specs.Means.{cell_number, sample_cells, sample_start}
use Rattle.image_writes.proofs.RowsWritten.{RowsDone}
use Rattle.image_means.proofs.blur.blur_from.Given as goal

abbrev pub invariant-loop-y : goal.invariant-loop-y
invariant-loop-y l = record {
  put : RowsDone (λ x j p. p ≡ Some (cell_number l.blur.bytes x (box_mean l.blur.bytes (l.blur.per * sample_cells l.blur.bytes) l.blur.across l.blur.down (shaped_grid l.source l.shape) (sample_start l.blur.bytes x) j))) l.fn.cells l.cells l.shape l.y;
  as_many : length l.sums ≡ length l.fn.sums;
  short : length l.factors ≤ 512;
  factors : 0 < l.known → AreFactors l.factors l.least l.known;
  begins : l.first ≡ l.y - 1 - l.blur.down;
  ends : l.end ≤ min (row_count (shape_width l.shape) (shape_height l.shape)) (l.y + l.blur.down);
  order : l.first ≤ l.end;
  columns : (k : ℕ) → k < length l.sums → sum_at l.sums k + column_upto l.blur.bytes l.source (shape_stride l.shape) k l.first ≡ column_upto l.blur.bytes l.source (shape_stride l.shape) k l.end;
}
