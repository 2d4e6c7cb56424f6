-- Two times sixteen clones.
use Rattle.std.proofs.Common.{arith}
use Rattle.image_ops.proofs.EqualClones.{gets_none, gets_upto, gets_rest}
use Rattle.image_ops.proofs.appending.push_thirty_two.Goals as goal

pub returns : goal.returns
returns g c =
    let C = g.T.Clone.is_clone in
    let cells = c.args.cells.now in
    let buf = c.args.buf.now in
    let half = gets_upto C cells buf buf 0 (gets_none C buf) c.push_sixteen.new.buf 16 (omega arith) (omega (arith, c.requires.thirty_two)) c.in_ok-push_sixteen.ensures in
    gets_rest C cells buf c.push_sixteen.new.buf 16 half c.push_sixteen-2.new.buf (omega (arith, c.requires.thirty_two)) c.in_ok-push_sixteen-2.ensures
