-- The rows so far show the mosaic, and the line of the next one is known.
use Rattle.std.proofs.Common.{◌≡◌, ◌%◌}
use Rattle.image_ops.proofs.Mosaics.{Shown}
use Rattle.image_ops.proofs.mosaic.mosaic_rows.Given as goal

abbrev pub invariant-loop-y : goal.invariant-loop-y
invariant-loop-y g l = record {
  shown : Shown l.initial.cells l.shape l.size l.tile_width l.tile_height l.cells l.y;
  line : l.line ≡ l.y % l.tile_height;
}
