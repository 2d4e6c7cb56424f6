-- All cells of the first pixel have their means.
use Rattle.std.proofs.Common.{◌-◌, ◌*◌, min, length, arith}
use Rattle.std.proofs.lemmas.Grind.{common_steps}
use Rattle.image_means.specs.LineSums.{sums_cell}
use Rattle.image_means.proofs.SumsOfTiles.{first_pixel, full_columns, one_mean_more}
use Rattle.image_means.proofs.tile_sums.put_tile.Goals as goal

pub loop-c-preserved : goal.loop-c-preserved
loop-c-preserved g c =
    let a = c.args in
    let columns = full_columns a.tile.size a.tile.width c.requires.sums.some c.requires.sums.wide (min (a.tile.width * a.tile.size) (length a.sums.now - c.loop-c.c)) (omega (arith, c.requires.whole, c.loop-c-test.true, c.loop-c.auto.c-end)) (omega arith) in
    one_mean_more g.C.Tally.tally g.T.Sample.sample a.tile.size a.tile.width a.lines a.sums.now a.start c.loop-c.c a.tile.width c.mean_of_sums-mean.result a.cells.now c.loop-c.cells c.sample.result columns c.mean_of_sums-mean.ensures.value c.sample.ensures (omega (arith, c.requires.inside, c.loop-c-test.true, c.loop-c.auto.c-end, c.requires.pixel)) c.loop-c.invariant

pub returns : goal.returns
returns g c =
    let a = c.args in
    first_pixel (sums_cell g.C.Tally.tally g.T.Sample.sample a.tile.size a.tile.width a.lines a.sums.now) a.tile.size a.tile.width a.start (length a.sums.now) c.loop-c.c a.cells.now c.loop-c.cells c.requires.sums.some c.requires.sums.wide (omega (arith, c.requires.whole)) (omega (arith, c.loop-c-test.false, c.loop-c.auto.c-end, c.requires.pixel)) c.loop-c.invariant

pub offset_bounds-cells-start : goal.offset_bounds-cells-start
offset_bounds-cells-start g c = grind (arith, common_steps)
