use Rattle.std.proofs.Common.{◌≡◌, Some}
use Rattle.image_writes.proofs.RowsWritten.{RowsDone}
use Rattle.image_ops.proofs.fill.fill_rows.Given as goal

abbrev pub invariant-loop-y : goal.invariant-loop-y
invariant-loop-y g l = RowsDone (λ _ _ p. p ≡ Some l.value) l.initial.cells l.cells l.shape l.y
