-- Each pixel begins with a sample of the row.
use Rattle.std.proofs.Common.{◌*◌, ◌<◌, length, arith}
use Rattle.std.proofs.lemmas.Grind.{common_steps}
use Rattle.image_model.specs.Tiles.{tile_count}
use Rattle.image_model.proofs.Tiles.{tile_begins}
use Rattle.image_means.proofs.Samples.{sample_within, whole_pixels}
use Rattle.image_means.proofs.means.sum_of.Goals as goal

pub sample_from-requires-clause-inside : goal.sample_from-requires-clause-inside
sample_from-requires-clause-inside g c =
    let a = c.args in
    let pixel = c.loop-pixel.pixel in
    let below : pixel < tile_count a.size (length a.row.now) = omega (arith, c.loop-pixel-test.true, c.tiles_along-pixel-end.ensures.value) in
    sample_within a.bytes (pixel * a.size) (length a.row.now) (whole_pixels a.bytes pixel a.size c.requires.samples.whole) c.requires.whole (tile_begins a.size (length a.row.now) pixel c.requires.samples.some below)

pub loop-pixel-preserved : goal.loop-pixel-preserved
loop-pixel-preserved g c = grind (arith, common_steps)
