-- The tiles so far are spread, and then the cells so far of the next one.
use Rattle.std.proofs.Common.{◌+◌, ◌-◌, ◌≤◌, length}
use Rattle.image_ops.proofs.PixelSpreading.{TilesSpread, SpreadByUpto}
use Rattle.image_ops.proofs.mosaic.spread_pixel_pairs.Given as goal

abbrev pub invariant-loop-row : goal.invariant-loop-row
invariant-loop-row g l = (l.corner ≤ length l.row) × TilesSpread g.row.N 2 l.fn.row l.row l.corner

abbrev pub decreases-loop-row : goal.decreases-loop-row
decreases-loop-row g l = length l.row - l.corner

abbrev pub invariant-loop-x : goal.invariant-loop-x
invariant-loop-x g l = (g.row.N ≤ l.x) × SpreadByUpto g.row.N 2 l.fn.row l.row l.corner (l.corner + l.x)

abbrev pub invariant-loop-last : goal.invariant-loop-last
invariant-loop-last g l = (g.row.N ≤ l.last) × SpreadByUpto g.row.N 2 l.fn.row l.row l.corner (l.corner + l.last)
