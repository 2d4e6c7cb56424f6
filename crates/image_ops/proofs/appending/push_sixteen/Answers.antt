-- Four times four clones are sixteen.
use Rattle.std.proofs.Common.{◌-◌, take, drop, length, length-take, length-drop, arith}
use Rattle.image_ops.proofs.EqualClones.{gets_none, gets_pushed, gets_upto, gets_rest}
use Rattle.image_ops.proofs.appending.push_sixteen.Goals as goal

pub returns : goal.returns
returns g c =
    let C = g.T.Clone.is_clone in
    let cells = c.args.cells.now in
    let buf = c.args.buf.now in
    let one = c.push_four.ensures in
    let two = c.push_four-2.ensures in
    let three = c.push_four-3.ensures in
    let four = c.push_four-4.ensures in
    let a = gets_upto C cells buf buf 0 (gets_none C buf) c.push_four.new.buf 4 (omega arith) (omega (arith, c.requires.sixteen))
    (gets_pushed C buf c.push_four.new.buf (take 4 cells) c.in_ok-first.first c.in_ok-first.ensures one.capacity (omega (arith, one.len, length-take 4 cells, c.requires.sixteen)) one.items) in
    let b = gets_upto C cells buf c.push_four.new.buf 4 a c.push_four-2.new.buf 8 (omega arith) (omega (arith, c.requires.sixteen))
    (gets_pushed C c.push_four.new.buf c.push_four-2.new.buf (take 4 (drop 4 cells)) c.in_ok-second.second c.in_ok-second.ensures two.capacity (omega (arith, two.len, length-take 4 (drop 4 cells), length-drop 4 cells, c.requires.sixteen)) two.items) in
    let d = gets_upto C cells buf c.push_four-2.new.buf 8 b c.push_four-3.new.buf 12 (omega arith) (omega (arith, c.requires.sixteen))
    (gets_pushed C c.push_four-2.new.buf c.push_four-3.new.buf (take 4 (drop 8 cells)) c.in_ok-third.third c.in_ok-third.ensures three.capacity (omega (arith, three.len, length-take 4 (drop 8 cells), length-drop 8 cells, c.requires.sixteen)) three.items) in
    let rest = take (length cells - 12) (drop 12 cells) in
    gets_rest C cells buf c.push_four-3.new.buf 12 d c.push_four-4.new.buf (omega (arith, c.requires.sixteen))
    (gets_pushed C c.push_four-3.new.buf c.push_four-4.new.buf rest c.in_ok-fourth.fourth c.in_ok-fourth.ensures four.capacity (omega (arith, four.len, length-take (length cells - 12) (drop 12 cells), length-drop 12 cells, c.requires.sixteen)) four.items)
