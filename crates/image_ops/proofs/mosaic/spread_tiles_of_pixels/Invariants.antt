-- The tiles so far are spread, and then the cells so far of the next one.
use Rattle.std.proofs.Common.{◌+◌, ◌-◌, ◌≤◌, length}
use Rattle.image_ops.proofs.PixelSpreading.{TilesSpread, SpreadByUpto}
use Rattle.image_ops.proofs.mosaic.spread_tiles_of_pixels.Given as goal

abbrev pub invariant-loop-corner : goal.invariant-loop-corner
invariant-loop-corner g l = TilesSpread l.size l.tile_width l.fn.row l.row l.corner

abbrev pub decreases-loop-corner : goal.decreases-loop-corner
decreases-loop-corner g l = length l.row - l.corner

abbrev pub invariant-loop-x : goal.invariant-loop-x
invariant-loop-x g l = (l.size ≤ l.x) × SpreadByUpto l.size l.tile_width l.fn.row l.row l.corner (l.corner + l.x)
