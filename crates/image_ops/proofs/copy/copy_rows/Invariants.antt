use Rattle.std.proofs.Common.{◌≡◌}
use Rattle.image_model.specs.Layout.{pixel}
use Rattle.image_shape.specs.Shape.{shaped}
use Rattle.image_writes.proofs.RowsWritten.{RowsDone}
use Rattle.image_ops.proofs.copy.copy_rows.Given as goal

abbrev pub invariant-loop-y : goal.invariant-loop-y
invariant-loop-y g l = RowsDone (λ x y p. p ≡ pixel (shaped l.source l.source_shape) x y) l.initial.cells l.cells l.shape l.y
