-- Sixteen clones or none, and those of the rest.
use Rattle.std.proofs.Common.{◌≤◌, take, length, arith}
use Rattle.image_ops.specs.Clones.{GetsClones}
use Rattle.image_ops.proofs.EqualClones.{gets_none, gets_rest_ok}
use Rattle.image_ops.proofs.appending.push_below_thirty_two.Goals as goal
use Rattle.image_ops.proofs.appending.push_below_thirty_two.Goals.{then-cells-ge16+in_ok-push_sixteen, else-cells-ge16}

pub returns : goal.returns
returns g c =
    let C = g.T.Clone.is_clone in
    let cells = c.args.cells.now in
    let now = c.if-cells-ge16 in
    let so : (now.done ≤ length cells) × GetsClones C c.args.buf.now now.buf (take now.done cells) = elim now.branch [
      | then-cells-ge16+in_ok-push_sixteen w ↦ rw (w.done-is, w.buf-is) (omega (arith, w.if-cells-ge16.true), w.in_ok-push_sixteen.ensures)
      | else-cells-ge16 w ↦ rw (w.done-is, w.buf-is) (omega arith, gets_none C c.args.buf.now)
    ] in
    gets_rest_ok C cells c.args.buf.now now.buf now.done so.1 c.push_below_sixteen.result c.push_below_sixteen.new.buf so.0 c.push_below_sixteen.ensures
