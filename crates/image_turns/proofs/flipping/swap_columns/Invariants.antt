use Rattle.image_model.specs.Turns.{swapped_column}
use Rattle.image_turns.proofs.Crossing.{FromRow}
use Rattle.image_writes.proofs.RowsWritten.{RowsDone}
use Rattle.image_turns.proofs.flipping.swap_columns.Given as goal

abbrev pub invariant-loop-y : goal.invariant-loop-y
invariant-loop-y g l = RowsDone (FromRow (swapped_column l.x l.z) l.initial.cells l.shape) l.initial.cells l.cells l.shape l.y
