-- All cells of the first pixel have their means.
use Rattle.std.proofs.Common.{◌≡◌, ◌-◌, ◌*◌, ◌<◌, min, length, ap, sym, ◌∙◌, arith}
use Rattle.std.proofs.lemmas.Grind.{common_steps}
use Rattle.image_model.specs.Tiles.{tile_count}
use Rattle.image_model.proofs.Tiles.{tile_begins}
use Rattle.image_means.specs.LineSums.{sums_cell}
use Rattle.image_means.specs.Means.{tile_columns}
use Rattle.image_means.proofs.SumsOfTiles.{first_pixel, one_mean_more}
use Rattle.image_means.proofs.tile_sums.put_cut_tile.Goals as goal

pub mean_of_sums-mean-requires-clause-there : goal.mean_of_sums-mean-requires-clause-there
mean_of_sums-mean-requires-clause-there g c = λ i below.
    let rest = length c.args.sums.now - c.loop-c.c in
    let inside : i < tile_count c.args.tile.size rest = omega (arith, below, c.tiles_along-columns.ensures.value) in
    omega (arith, tile_begins c.args.tile.size rest i c.requires.sums.some inside)

pub loop-c-preserved : goal.loop-c-preserved
loop-c-preserved g c =
    let a = c.args in
    let rest = length a.sums.now - c.loop-c.c in
    let one : min (a.tile.width * a.tile.size) rest ≡ rest = omega (arith, c.requires.one) in
    let columns : tile_columns a.tile.size a.tile.width (length a.sums.now) c.loop-c.c ≡ c.tiles_along-columns.result = ap (tile_count a.tile.size) one ∙ sym c.tiles_along-columns.ensures.value in
    one_mean_more g.C.Tally.tally g.T.Sample.sample a.tile.size a.tile.width a.lines a.sums.now a.start c.loop-c.c c.tiles_along-columns.result c.mean_of_sums-mean.result a.cells.now c.loop-c.cells c.sample.result columns c.mean_of_sums-mean.ensures.value c.sample.ensures (omega (arith, c.requires.inside, c.loop-c-test.true, c.loop-c.auto.c-end, c.min-c-end.ensures)) c.loop-c.invariant

pub returns : goal.returns
returns g c =
    let a = c.args in
    first_pixel (sums_cell g.C.Tally.tally g.T.Sample.sample a.tile.size a.tile.width a.lines a.sums.now) a.tile.size a.tile.width a.start (length a.sums.now) c.loop-c.c a.cells.now c.loop-c.cells c.requires.sums.some c.requires.sums.wide (omega (arith, c.requires.one)) (omega (arith, c.loop-c-test.false, c.loop-c.auto.c-end, c.min-c-end.ensures)) c.loop-c.invariant

pub offset_bounds-cells-start : goal.offset_bounds-cells-start
offset_bounds-cells-start g c = grind (arith, common_steps)
