use Rattle.image_shape.specs.Shape.{shape_stride}
use Rattle.image_ops.proofs.PlaceAnswers.{IsAnswerAt}
use Rattle.image_writes.proofs.RowsWritten.{RowsDone}
use Rattle.image_ops.proofs.map.map_pixels.Given as goal

abbrev pub invariant-loop-y : goal.invariant-loop-y
invariant-loop-y g l = RowsDone (IsAnswerAt (λ _ _. goal.F-post g l.f) l.initial.cells (shape_stride l.shape)) l.initial.cells l.cells l.shape l.y
