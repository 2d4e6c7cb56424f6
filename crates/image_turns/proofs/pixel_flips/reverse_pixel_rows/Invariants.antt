use Rattle.image_turns.proofs.Crossing.{FromRow}
use Rattle.image_turns.proofs.PixelFlips.{reversed_place}
use Rattle.image_writes.proofs.RowsWritten.{RowsDone}
use Rattle.image_turns.proofs.pixel_flips.reverse_pixel_rows.Given as goal

abbrev pub invariant-loop-y : goal.invariant-loop-y
invariant-loop-y g l = RowsDone (FromRow (reversed_place l.size l.columns) l.initial.cells l.shape) l.initial.cells l.cells l.shape l.y
