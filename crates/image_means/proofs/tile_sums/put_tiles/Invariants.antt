-- The tiles so far have their means.
use Rattle.std.proofs.Common.{length, ◌-◌}
use Rattle.image_means.specs.LineSums.{sums_cell}
use Rattle.image_means.proofs.SumsOfTiles.{PutBefore}
use Rattle.image_means.proofs.tile_sums.put_tiles.Given as goal

abbrev pub invariant-loop-at : goal.invariant-loop-at
invariant-loop-at g l = PutBefore (sums_cell g.C.Tally.tally g.T.Sample.sample l.tile.size l.tile.width l.lines.count l.sums) l.tile.size l.tile.width l.lines.first.start (length l.sums) l.fn.cells l.cells l.at

abbrev pub decreases-loop-at : goal.decreases-loop-at
decreases-loop-at g l = length l.sums - l.at
