-- The cells so far have their means, and all others are as before.
use Rattle.image_means.specs.LineSums.{sums_cell}
use Rattle.image_means.proofs.SumsOfTiles.{FirstCells}
use Rattle.image_means.proofs.tile_sums.put_quads.Given as goal

abbrev pub invariant-loop-k : goal.invariant-loop-k
invariant-loop-k g l = FirstCells (sums_cell g.C.Tally.tally g.T.Sample.sample l.size 2 2 l.sums) l.start l.fn.cells l.cells l.k

abbrev pub invariant-loop-last : goal.invariant-loop-last
invariant-loop-last g l = FirstCells (sums_cell g.C.Tally.tally g.T.Sample.sample l.size 2 2 l.sums) l.start l.fn.cells l.cells l.last
