-- Two times thirty-two clones more.
use Rattle.std.proofs.Common.{◌+◌, ◌≤◌, length, arith}
use Rattle.image_ops.proofs.EqualClones.{gets_upto}
use Rattle.image_ops.proofs.appending.push_many.Goals as goal

pub loop-done-preserved : goal.loop-done-preserved
loop-done-preserved g c =
    let gets = gets_upto g.T.Clone.is_clone c.args.cells.now c.args.buf.now in
    let n = c.loop-done.done in
    let inv = c.loop-done.invariant in
    let within : n + 64 ≤ length c.args.cells.now = omega (arith, c.loop-done-test.true, c.requires.whole, inv.2.1) in
    let half = gets c.loop-done.buf n inv.1 c.push_thirty_two.new.buf (n + 32) (omega arith) (omega (arith, within)) c.in_ok-push_thirty_two.ensures in
    (within, gets c.push_thirty_two.new.buf (n + 32) half c.push_thirty_two-in-loop-done.new.buf (n + 64) (omega arith) within c.in_ok-push_thirty_two-2.ensures, (inv.2.0 + 1, omega (arith, inv.2.1)))
