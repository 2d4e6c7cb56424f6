-- Sixteen clones more.
use Rattle.std.proofs.Common.{◌+◌, ◌≤◌, length, arith}
use Rattle.image_ops.proofs.EqualClones.{gets_upto}
use Rattle.image_ops.proofs.appending.push_whole.Goals as goal

pub loop-done-preserved : goal.loop-done-preserved
loop-done-preserved g c =
    let cells = c.args.cells.now in
    let n = c.loop-done.done in
    let inv = c.loop-done.invariant in
    let within : n + 16 ≤ length cells = omega (arith, c.loop-done-test.true, c.requires.whole, inv.2.1) in
    (within, gets_upto g.T.Clone.is_clone cells c.args.buf.now c.loop-done.buf n inv.1 c.push_sixteen.new.buf (n + 16) (omega arith) within c.in_ok-push_sixteen.ensures, (inv.2.0 + 1, omega (arith, inv.2.1)))
