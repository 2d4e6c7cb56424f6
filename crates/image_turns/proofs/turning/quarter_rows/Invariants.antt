use Rattle.std.proofs.Common.{◌≡◌}
use Rattle.image_model.specs.Layout.{pixel}
use Rattle.image_shape.specs.Shape.{shape_width, shape_height, shaped}
use Rattle.image_turns.specs.Quarters.{source_column, source_row}
use Rattle.image_writes.proofs.RowsWritten.{RowsDone}
use Rattle.image_turns.proofs.turning.quarter_rows.Given as goal

abbrev pub invariant-loop-y : goal.invariant-loop-y
invariant-loop-y g l =
    RowsDone (λ x y p. p ≡ pixel (shaped l.source l.from.shape) (source_column l.from.crossing (shape_width l.from.shape) x y) (source_row l.from.crossing (shape_height l.from.shape) x y)) l.initial.cells l.cells l.shape l.y
