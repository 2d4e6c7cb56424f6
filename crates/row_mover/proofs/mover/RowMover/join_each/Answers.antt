-- A row more is joined.
use Rattle.std.proofs.Common.{ap, length, arith}
use Rattle.row_mover.proofs.Compacting.{compacted_first, compacted_after, row_within}
use Rattle.row_mover.proofs.mover.RowMover.join_each.Goals as goal

pub loop-y-init : goal.loop-y-init
loop-y-init g c =
    let a = c.args in
    let r = c.requires.rows in
    compacted_first a.self.now a.width a.height a.stride r.fits r.some r.row

pub overflow_mul-y-in-loop-y : goal.overflow_mul-y-in-loop-y
overflow_mul-y-in-loop-y g c =
    let a = c.args in
    let r = c.requires.rows in
    omega (arith, row_within a.self.now.cells a.width a.height a.stride c.loop-y.y a.width r.fits r.some c.loop-y-test.true (omega (arith, r.apart)), ap length c.cells.ensures, c.if-prove.false)

pub loop-y-preserved : goal.loop-y-preserved
loop-y-preserved g c =
    let a = c.args in
    let r = c.requires.rows in
    compacted_after a.self.now a.width a.height a.stride r.fits r.some c.loop-y.self c.shift_by.new.self c.loop-y.y c.loop-y.invariant (omega (arith, r.apart)) c.loop-y-test.true c.shift_by.ensures
