-- A row more is joined, first by blocks, and then where the row doesn't overlap its place.
use Rattle.std.proofs.Common.{◌-◌, ap, length, arith}
use Rattle.row_mover.proofs.Compacting.{compacted_first, compacted_after, row_within}
use Rattle.row_mover.proofs.mover.RowMover.join_long.Goals as goal

pub loop-y-init : goal.loop-y-init
loop-y-init g c =
    let a = c.args in
    (c.requires.rows.row, rw c.replace-mover.ensures.value (compacted_first a.self.now a.width a.height a.stride c.requires.rows.fits c.requires.rows.some c.requires.rows.row))

pub overflow_mul-y : goal.overflow_mul-y
overflow_mul-y g c =
    let a = c.args in
    omega (arith, row_within a.self.now.cells a.width a.height a.stride c.loop-y.y (a.stride - a.width) c.requires.rows.fits c.requires.rows.some c.loop-y-test.true (omega arith), ap length c.cells.ensures, c.if-prove.false)

pub overflow_mul-y-in-loop-y-2 : goal.overflow_mul-y-in-loop-y-2
overflow_mul-y-in-loop-y-2 g c =
    let a = c.args in
    omega (arith, row_within a.self.now.cells a.width a.height a.stride c.loop-y.y a.width c.requires.rows.fits c.requires.rows.some c.loop-y-test.true (omega (arith, c.requires.rows.apart)), ap length c.cells.ensures, c.if-prove.false)

pub loop-y-preserved : goal.loop-y-preserved
loop-y-preserved g c =
    let a = c.args in
    (omega (arith, c.loop-y-test.true), compacted_after a.self.now a.width a.height a.stride c.requires.rows.fits c.requires.rows.some c.loop-y.mover c.shift_by.new.self c.loop-y.y c.loop-y.invariant.1 (omega (arith, c.requires.rows.apart)) c.loop-y-test.true c.shift_by.ensures)

pub overflow_mul-y-in-loop-y-2-3 : goal.overflow_mul-y-in-loop-y-2-3
overflow_mul-y-in-loop-y-2-3 g c =
    let a = c.args in
    omega (arith, row_within a.self.now.cells a.width a.height a.stride c.loop-y-2.y a.width c.requires.rows.fits c.requires.rows.some c.loop-y-2-test.true (omega (arith, c.requires.rows.apart)), ap length c.cells.ensures, c.if-prove.false)

pub loop-y-2-preserved : goal.loop-y-2-preserved
loop-y-2-preserved g c =
    let a = c.args in
    compacted_after a.self.now a.width a.height a.stride c.requires.rows.fits c.requires.rows.some c.loop-y-2.mover c.shift_by-in-loop-y-2.new.self c.loop-y-2.y c.loop-y-2.invariant (omega (arith, c.requires.rows.apart)) c.loop-y-2-test.true c.shift_by-in-loop-y-2.ensures
