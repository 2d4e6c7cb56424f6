-- The tiles so far are spread.
use Rattle.std.proofs.Common.{◌-◌, length}
use Rattle.image_ops.proofs.Spreading.{SpreadUpto}
use Rattle.image_ops.proofs.mosaic.spread_by_tiles.Given as goal

abbrev pub invariant-loop-corner : goal.invariant-loop-corner
invariant-loop-corner g l = SpreadUpto l.tile_width l.fn.row l.row l.corner l.corner

abbrev pub decreases-loop-corner : goal.decreases-loop-corner
decreases-loop-corner g l = length l.row - l.corner
