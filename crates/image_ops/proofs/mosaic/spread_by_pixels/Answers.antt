-- One cell more: of the first pixel of the next tile, of another pixel, or of the first of this tile.
use Rattle.std.proofs.Common.{◌*◌, ◌<◌, ◌≤◌, length, arith}
use Rattle.std.proofs.lemmas.Nat.{mul-le}
use Rattle.image_ops.proofs.PixelSpreading.{first_pixel_cell, next_tile_cell, other_pixel}
use Rattle.image_ops.proofs.mosaic.spread_by_pixels.Goals as goal

pub loop-x-preserved : goal.loop-x-preserved
loop-x-preserved g c =
    let size = c.args.size in
    let wide = c.args.tile_width in
    let some : 0 < size = c.requires.size in
    let many : 0 < wide = c.requires.tile_width in
    let old = c.args.row.now in
    let now = c.loop-x.row in
    let x = c.loop-x.x in
    let corner = c.loop-x.corner in
    let so = c.loop-x.invariant in
    let here : x < length old = c.loop-x-test.true in
    let room : size ≤ wide * size = omega (arith, mul-le 1 size wide size (omega arith) (omega arith)) in
    let tile = c.saturating_mul-tile.ensures in
    elim c.if-x-corner.branch [
      | goal.then-x-corner w ↦ rw (w.row-is, w.corner-is) (next_tile_cell size wide some many old now corner x so (omega (arith, w.if-x-corner.true, tile, so.reached.from, here, so.reached.within)) room)
      | goal.else-x-corner+then-x-corner-2 w ↦ rw (w.row-is, w.corner-is) (other_pixel size wide some many old now corner x so w.index-row-x.result (omega (arith, w.if-x-corner-2.true, so.reached.from)) (omega (arith, w.if-x-corner.false, tile, so.reached.from, so.reached.within, here)) here w.index-row-x.is)
      | goal.else-x-corner+else-x-corner-2 w ↦ rw (w.row-is, w.corner-is) (first_pixel_cell size wide some many old now corner x so (omega (arith, w.if-x-corner-2.false, so.reached.from)) room)
    ]
