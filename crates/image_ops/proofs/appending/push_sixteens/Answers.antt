-- Thirty-two clones more, and those of the rest.
use Rattle.std.proofs.Common.{◌+◌, ◌≤◌, length, arith}
use Rattle.image_ops.proofs.EqualClones.{gets_upto, gets_rest_ok}
use Rattle.image_ops.proofs.appending.push_sixteens.Goals as goal

pub loop-done-preserved : goal.loop-done-preserved
loop-done-preserved g c =
    let within : c.loop-done.done + 32 ≤ length c.args.cells.now = omega (arith, c.loop-done-test.true) in
    (within, gets_upto g.T.Clone.is_clone c.args.cells.now c.args.buf.now c.loop-done.buf c.loop-done.done c.loop-done.invariant.1 c.push_thirty_two.new.buf (c.loop-done.done + 32) (omega arith) within c.in_ok-push_thirty_two.ensures)

pub returns : goal.returns
returns g c = gets_rest_ok g.T.Clone.is_clone c.args.cells.now c.args.buf.now c.loop-done.buf c.loop-done.done c.loop-done.invariant.1 c.push_below_thirty_two.result c.push_below_thirty_two.new.buf c.loop-done.invariant.0 c.push_below_thirty_two.ensures
