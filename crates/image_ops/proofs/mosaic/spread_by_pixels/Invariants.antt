-- The cells so far are spread.
use Rattle.image_ops.proofs.PixelSpreading.{SpreadByUpto}
use Rattle.image_ops.proofs.mosaic.spread_by_pixels.Given as goal

abbrev pub invariant-loop-x : goal.invariant-loop-x
invariant-loop-x g l = SpreadByUpto l.size l.tile_width l.fn.row l.row l.corner l.x
