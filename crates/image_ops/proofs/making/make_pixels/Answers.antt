-- One row more.
use Rattle.std.proofs.Common.{arith}
use Rattle.image_ops.proofs.PixelsMade.{row_added}
use Rattle.image_ops.proofs.making.make_pixels.Goals as goal

pub loop-y-preserved : goal.loop-y-preserved
loop-y-preserved g c =
    let inv = c.loop-y.invariant in
    (omega (arith, inv.0, c.push_row.ensures.capacity), omega (arith, inv.1, c.push_row.ensures.len), row_added (goal.F-post g c.args.f.now) c.args.width c.loop-y.y _ _ inv.2 c.push_row.ensures.added)
