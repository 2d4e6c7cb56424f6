-- The first pixel of a tile, then one cell more of the others; and one tile more.
use Rattle.std.proofs.Common.{◌≡◌, ℕ, ◌+◌, ◌*◌, ◌<◌, ◌≤◌, ◌⊎◌, inl, inr, length, subst, arith}
use Rattle.std.proofs.lemmas.Bool.{cases_lt}
use Rattle.std.proofs.lemmas.Nat.{mul-le}
use Rattle.std.specs.List.{slice_set}
use Rattle.image_ops.proofs.PixelSpreading.{SpreadByUpto, first_pixel, other_pixel, one_tile_of_pixels}
use Rattle.image_ops.proofs.mosaic.spread_tiles_of_pixels.Goals as goal

pub loop-x-init : goal.loop-x-init
loop-x-init g c =
    let size = c.args.size in
    let wide = c.args.tile_width in
    let many : 1 ≤ wide = omega (arith, c.requires.tile_width) in
    let room : size ≤ wide * size = omega (arith, mul-le 1 size wide size many (omega arith)) in
    let here : c.loop-corner.corner < length c.args.row.now = omega (arith, c.loop-corner-test.true, c.loop-corner.invariant.as_many) in
    (omega arith, first_pixel size wide c.requires.size c.requires.tile_width c.args.row.now c.loop-corner.row c.loop-corner.corner (c.loop-corner.invariant.going here) room)

pub loop-x-preserved : goal.loop-x-preserved
loop-x-preserved g c =
    let size = c.args.size in
    let wide = c.args.tile_width in
    let old = c.args.row.now in
    let now = c.loop-x.row in
    let corner = c.loop-corner.corner in
    let x = c.loop-x.x in
    let value = c.index-row-corner.result in
    let so = c.loop-x.invariant.1 in
    let after : size ≤ x = c.loop-x.invariant.0 in
    let tile = c.saturating_mul-tile.ensures in
    let len = c.min-len.ensures in
    let below : x < wide * size = omega (arith, c.loop-x-test.true, tile, len) in
    let here : corner + x < length old = omega (arith, c.loop-x-test.true, len, c.loop-corner.invariant.as_many) in (
      omega (arith, after),
      subst (SpreadByUpto size wide old (slice_set now (corner + x) value) corner) (let e : corner + x + 1 ≡ corner + (x + 1) = omega arith in e)
          (other_pixel size wide c.requires.size c.requires.tile_width old now corner (corner + x) so value (omega (arith, after)) (omega (arith, below)) here c.index-row-corner.is),
    )

pub loop-corner-preserved : goal.loop-corner-preserved
loop-corner-preserved g c =
    let tile : ℕ = c.args.tile_width * c.args.size in
    let end : ℕ = c.loop-corner.corner + c.min-len.result in
    let ends : (c.min-len.result ≡ tile) ⊎ (length c.args.row.now ≤ end) =
    elim (cases_lt end (length c.args.row.now)) [
      | inl more ↦ inl (omega (arith, more, c.min-len.ensures, c.saturating_mul-tile.ensures, c.loop-corner.invariant.as_many))
      | inr over ↦ inr over
    ] in
    one_tile_of_pixels c.args.size c.args.tile_width c.requires.size c.requires.tile_width c.args.row.now c.loop-x.row c.loop-corner.corner c.loop-x.x c.min-len.result c.loop-x.invariant.1 (omega (arith, c.loop-x-test.false)) ends
