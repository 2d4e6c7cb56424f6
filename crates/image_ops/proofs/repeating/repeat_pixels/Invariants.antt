-- The rows so far have the pattern.
use Rattle.std.proofs.Common.{◌≡◌, ◌%◌, length}
use Rattle.std.specs.List.{slice_get}
use Rattle.image_writes.proofs.RowsWritten.{RowsDone}
use Rattle.image_ops.proofs.repeating.repeat_pixels.Given as goal

abbrev pub invariant-loop-y : goal.invariant-loop-y
invariant-loop-y g l = RowsDone (λ x _ p. p ≡ slice_get l.pattern (x % length l.pattern)) l.initial.cells l.cells l.shape l.y
