-- The rows up to this one are done.
use Rattle.std.proofs.Common.{◌≡◌, ◌<◌, ◌≤◌, ◌+◌, ℕ, length}
use Rattle.image_shape.specs.Shape.{shape_stride}
use Rattle.image_means.specs.Blur.{sum_at, column_upto}
use Rattle.image_means.proofs.blur.take_rows.Given as goal

abbrev pub invariant-loop-y : goal.invariant-loop-y
invariant-loop-y l = record {
  order : l.fn.rows.start ≤ l.y;
  as_many : length l.sums ≡ length l.fn.sums;
  each : (k : ℕ) → k < length l.sums → sum_at l.fn.sums k + column_upto l.bytes l.cells (shape_stride l.shape) k l.fn.rows.start ≡ sum_at l.sums k + column_upto l.bytes l.cells (shape_stride l.shape) k l.y;
}
