-- The clones of one row more, for which there is room.
use Rattle.std.proofs.Common.{◌≡◌, ◌+◌, ◌*◌, ◌≤◌, arith}
use Rattle.std.proofs.Math.Nat.{mul-le-mul_right}
use Rattle.image_shape.specs.Shape.{shape_width, shape_height, shaped}
use Rattle.image_model.specs.Rows.{row_count}
use Rattle.image_model.proofs.Rows.{some_pixel, row_count-le}
use Rattle.image_ops.proofs.EqualClones.{clones_more}
use Rattle.image_ops.proofs.clones.push_rows.Goals as goal

pub push_clones-requires : goal.push_clones-requires
push_clones-requires g c =
    let w = shape_width c.args.shape in
    let h = shape_height c.args.shape in
    let y = c.loop-y.y in
    let below : y + 1 ≤ h = omega (arith, c.row_count-y-end.ensures.value, row_count-le w h) in
    let next : (y + 1) * w ≤ h * w = mul-le-mul_right w below in
    record { whole = rw c.row.ensures.len c.requires.whole; room = omega (arith, next, c.loop-y.invariant.0, c.loop-y.invariant.1, c.row.ensures.len) }

pub loop-y-preserved : goal.loop-y-preserved
loop-y-preserved g c =
    let inv = c.loop-y.invariant in
    let got = c.in_ok-push_clones.ensures in (
      omega (arith, inv.0, got.room),
      omega (arith, inv.1, got.len, c.row.ensures.len),
      clones_more g.T.Clone.is_clone (shaped c.args.cells.now c.args.shape) c.loop-y.y c.loop-y.pixels.items c.push_clones.new.buf.items c.row.result.now c.row.ensures.value inv.2 got.clones,
    )

pub returns-clause-clones : goal.returns-clause-clones
returns-clause-clones g c =
    let last : c.loop-y.y ≡ row_count (shape_width c.args.shape) (shape_height c.args.shape) = omega (arith, c.row_count-y-end.ensures.value) in
    rw last at c.loop-y.invariant.2

-- a row that was cloned has a pixel
pub returns-in_err-push_clones-clause-succeeds : goal.returns-in_err-push_clones-clause-succeeds
returns-in_err-push_clones-clause-succeeds g c =
    let w = shape_width c.args.shape in
    let h = shape_height c.args.shape in
    λ none. absurd (omega (arith, none, some_pixel w h c.loop-y.y (omega (arith, c.row_count-y-end.ensures.value))))
