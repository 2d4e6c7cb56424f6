use Rattle.std.proofs.Common.{◌≡◌}
use Rattle.image_model.specs.Layout.{pixel}
use Rattle.image_shape.specs.Shape.{shape_height, shaped}
use Rattle.image_turns.specs.Blocks.{line_read}
use Rattle.image_writes.proofs.RowsWritten.{RowsDone}
use Rattle.image_turns.proofs.blocks.read_rows.Given as goal

abbrev pub invariant-loop-y : goal.invariant-loop-y
invariant-loop-y g l = RowsDone (λ x y p. p ≡ pixel (shaped l.source l.source_shape) x (line_read l.back (shape_height l.source_shape) y)) l.initial.cells l.cells l.shape l.y
