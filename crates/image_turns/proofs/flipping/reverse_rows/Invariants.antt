use Rattle.std.proofs.Common.{◌-◌}
use Rattle.image_shape.specs.Shape.{shape_width}
use Rattle.image_turns.proofs.Crossing.{FromRow}
use Rattle.image_writes.proofs.RowsWritten.{RowsDone}
use Rattle.image_turns.proofs.flipping.reverse_rows.Given as goal

abbrev pub invariant-loop-y : goal.invariant-loop-y
invariant-loop-y g l = RowsDone (FromRow (λ x. shape_width l.shape - 1 - x) l.initial.cells l.shape) l.initial.cells l.cells l.shape l.y
