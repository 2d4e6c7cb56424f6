use Rattle.std.proofs.Common.{◌≡◌, Some}
use Rattle.image_model.specs.Layout.{pixel}
use Rattle.image_shape.specs.Shape.{shape_stride, shaped}
use Rattle.image_ops.proofs.PlaceAnswers.{IsAnswerAt}
use Rattle.image_writes.proofs.RowsWritten.{RowsDone}
use Rattle.image_ops.proofs.places.zip_pixels.Given as goal

abbrev pub invariant-loop-y : goal.invariant-loop-y
invariant-loop-y g l = RowsDone (IsAnswerAt (λ x y p r. (q : _) → pixel (shaped l.others l.other_shape) x y ≡ Some q → goal.F-post g l.f p q r) l.initial.cells (shape_stride l.shape)) l.initial.cells l.cells l.shape l.y
