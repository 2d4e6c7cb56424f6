-- The first pixel of a tile, then one cell more of the second; and one tile more.
use Rattle.std.proofs.Common.{◌≡◌, ◌+◌, ◌*◌, ◌<◌, ◌≤◌, inl, length, subst, arith}
use Rattle.std.specs.List.{slice_set}
use Rattle.image_ops.proofs.PixelSpreading.{SpreadByUpto, first_pixel, other_pixel, one_tile_of_pixels}
use Rattle.image_ops.proofs.mosaic.spread_pixel_pairs.Goals as goal

pub loop-x-init : goal.loop-x-init
loop-x-init g c =
    let so = c.loop-row.invariant.1 in
    let here : c.loop-row.corner < length c.args.row.now = omega (arith, c.loop-row-test.true, so.as_many, c.requires.some) in
    (omega arith, first_pixel g.row.N 2 c.requires.some (omega arith) c.args.row.now c.loop-row.row c.loop-row.corner (so.going here) (omega arith))

pub loop-x-preserved : goal.loop-x-preserved
loop-x-preserved g c =
    let old = c.args.row.now in
    let corner = c.loop-row.corner in
    let x = c.loop-x.x in
    let value = c.index-row-corner.result in
    let after : g.row.N ≤ x = c.loop-x.invariant.0 in
    let below : x < 2 * g.row.N = omega (arith, c.loop-x-test.true, c.loop-x.auto.x-end) in
    let here : corner + x < length old = omega (arith, below, c.loop-row-test.true, c.loop-row.invariant.1.as_many) in (
      omega (arith, after),
      subst (SpreadByUpto g.row.N 2 old (slice_set c.loop-x.row (corner + x) value) corner) (let e : corner + x + 1 ≡ corner + (x + 1) = omega arith in e)
          (other_pixel g.row.N 2 c.requires.some (omega arith) old c.loop-x.row corner (corner + x) c.loop-x.invariant.1 value (omega (arith, after)) (omega (arith, below)) here c.index-row-corner.is),
    )

pub loop-row-preserved : goal.loop-row-preserved
loop-row-preserved g c = (
  omega (arith, c.loop-row-test.true, c.loop-row.invariant.1.as_many, c.loop-x.invariant.1.as_many),
  one_tile_of_pixels g.row.N 2 c.requires.some (omega arith) c.args.row.now c.loop-x.row c.loop-row.corner c.loop-x.x (2 * g.row.N) c.loop-x.invariant.1 (omega (arith, c.loop-x-test.false, c.loop-x.auto.x-end)) (inl (omega arith)),
)

pub loop-last-init : goal.loop-last-init
loop-last-init g c =
    let so = c.loop-row.invariant.1 in
    (omega arith, first_pixel g.row.N 2 c.requires.some (omega arith) c.args.row.now c.loop-row.row c.loop-row.corner (so.going (omega (arith, c.if-corner-row.true, so.as_many))) (omega arith))

pub loop-last-preserved : goal.loop-last-preserved
loop-last-preserved g c =
    let old = c.args.row.now in
    let corner = c.loop-row.corner in
    let x = c.loop-last.last in
    let value = c.index-row-corner-in-loop-last.result in
    let after : g.row.N ≤ x = c.loop-last.invariant.0 in
    let here : corner + x < length old = omega (arith, c.loop-last-test.true, c.loop-last.auto.last-end, c.loop-row.invariant.1.as_many) in
    let below : x < 2 * g.row.N = omega (arith, here, c.loop-row-test.false, c.loop-row.invariant.1.as_many) in (
      omega (arith, after),
      subst (SpreadByUpto g.row.N 2 old (slice_set c.loop-last.row (corner + x) value) corner) (let e : corner + x + 1 ≡ corner + (x + 1) = omega arith in e)
          (other_pixel g.row.N 2 c.requires.some (omega arith) old c.loop-last.row corner (corner + x) c.loop-last.invariant.1 value (omega (arith, after)) (omega (arith, below)) here c.index-row-corner-in-loop-last.is),
    )
