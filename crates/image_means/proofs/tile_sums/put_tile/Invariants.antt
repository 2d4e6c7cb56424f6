-- The cells of the first pixel so far have their means, and all others are as before.
use Rattle.image_means.specs.LineSums.{sums_cell}
use Rattle.image_means.proofs.SumsOfTiles.{FirstCells}
use Rattle.image_means.proofs.tile_sums.put_tile.Given as goal

abbrev pub invariant-loop-c : goal.invariant-loop-c
invariant-loop-c g l = FirstCells (sums_cell g.C.Tally.tally g.T.Sample.sample l.tile.size l.tile.width l.lines l.sums) l.start l.fn.cells l.cells l.c
