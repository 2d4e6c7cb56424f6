use Rattle.std.proofs.Common.{◌∙◌, arith}
use Rattle.image_ops.proofs.PixelsMade.{one_added}
use Rattle.image_ops.proofs.making.push_row.Goals as goal

pub loop-x-preserved : goal.loop-x-preserved
loop-x-preserved g c =
    let so = c.loop-x.invariant in
    let now = c.push_reserved.ensures in
    (now.capacity ∙ so.0, omega (arith, now.len, so.1), rw now.items (one_added _ _ _ c.loop-x.x _ so.2 c.f.ensures))
