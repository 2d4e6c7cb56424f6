-- The tiles before the corner are spread, and the corner's pixel has been read.
use Rattle.std.proofs.Common.{◌-◌, length}
use Rattle.image_ops.proofs.BlockSpreading.{SpreadAhead}
use Rattle.image_ops.proofs.mosaic.spread_by_blocks.Given as goal

abbrev pub invariant-loop-row : goal.invariant-loop-row
invariant-loop-row g l = SpreadAhead l.tile_width l.fn.row l.row l.corner l.pixel

abbrev pub decreases-loop-row : goal.decreases-loop-row
decreases-loop-row g l = length l.row - l.corner
