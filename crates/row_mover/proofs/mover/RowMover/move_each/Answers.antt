-- A row more is moved, and after the last one the window is.
use Rattle.std.proofs.Common.{arith}
use Rattle.row_mover.proofs.Moving.{moved_after, moved_before, all_moved}
use Rattle.row_mover.proofs.mover.RowMover.move_each.Goals as goal

pub loop-y-preserved : goal.loop-y-preserved
loop-y-preserved g c =
    let a = c.args in
    let r = c.requires.rows in
    moved_after a.self.now c.loop-y.self c.shift_by.new.self a.stride a.from a.to a.width a.height c.loop-y.y r.holds_width r.some c.loop-y-test.true (λ _ _. r.source) (λ _ _. r.target) c.shift_by.ensures c.loop-y.invariant c.if-to-from.true

pub loop-y-else-to-from-preserved : goal.loop-y-else-to-from-preserved
loop-y-else-to-from-preserved g c =
    let a = c.args in
    let r = c.requires.rows in
    let l = c.loop-y-else-to-from in
    moved_before a.self.now l.self c.shift_by-in-loop-y-else-to-from.new.self a.stride a.from a.to a.width a.height l.y r.holds_width r.some l.auto.y (omega (arith, c.loop-y-else-to-from-test.true)) (λ _ _. r.source) (λ _ _. r.target) c.shift_by-in-loop-y-else-to-from.ensures l.invariant (omega (arith, c.if-to-from.false))

pub returns-after-loop-y : goal.returns-after-loop-y
returns-after-loop-y g c =
    let a = c.args in
    all_moved a.self.now c.loop-y.self a.stride a.from a.to a.width a.height 0 c.loop-y.y c.requires.rows.some (omega arith) c.loop-y-test.false c.loop-y.auto.y-end c.loop-y.invariant

pub returns-after-loop-y-else-to-from : goal.returns-after-loop-y-else-to-from
returns-after-loop-y-else-to-from g c =
    let a = c.args in
    let l = c.loop-y-else-to-from in
    all_moved a.self.now l.self a.stride a.from a.to a.width a.height l.y a.height c.requires.rows.some c.loop-y-else-to-from-test.false (omega arith) (omega arith) l.invariant
