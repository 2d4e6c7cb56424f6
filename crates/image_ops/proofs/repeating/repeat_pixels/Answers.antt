-- The first row gets the pattern, and each other one is a copy of the row above it.
use Rattle.std.proofs.Common.{ℕ, ◌%◌, ◌<◌, length, Option, refl, arith, ◌∙◌}
use Rattle.std.specs.List.{slice_get}
use Rattle.image_ops.specs.Repeated.{repeated}
use Rattle.image_model.specs.Rows.{row_count}
use Rattle.image_writes.proofs.RowsWritten.{row_range, row_written, row_copied, shows_table}
use Rattle.image_ops.proofs.repeating.repeat_pixels.Goals as goal

pub loop-y-preserved : goal.loop-y-preserved
loop-y-preserved g c =
    let old = c.args.cells.now in
    let s = c.args.shape in
    let y = c.loop-y.y in
    let so = c.loop-y.invariant in
    let pattern = c.args.pattern.now in
    let at : ℕ → ℕ → Option g.row.T.Denot = λ x _. slice_get pattern (x % length pattern) in
    let row = c.row-row in
    let below : y < row_count s.width s.height = omega (arith, c.row_count-y-end.ensures.value, c.loop-y-test.true) in
    elim c.if-y-eq0.branch [
      | goal.then-y-eq0 w ↦
          let line = w.repeat_cells.ensures in
          let at = row_range s y w.range.ensures.start w.range.ensures.end row.ensures.start row.ensures.len in
          rw w.cells-is (row_written _ old c.loop-y.cells s y so c.requires.fits below _ _ at w.repeat_cells.new.row line.as_many (λ x column here. line.each x (omega (arith, here, line.as_many))))
      | goal.else-y-eq0 w ↦
          let above = w.row_above in
          rw (w.cells-is, w.repeat_row.ensures) (row_copied at old c.loop-y.cells s y so c.requires.fits below above.result row.result (omega (arith, w.if-y-eq0.false)) (λ x. refl) above.ensures.start (above.ensures.len ∙ row.ensures.len) row.ensures.start)
    ]

pub returns-clause-grid : goal.returns-clause-grid
unfolding repeated
returns-clause-grid g c =
    let pattern = c.args.pattern.now in
    shows_table (λ x _. slice_get pattern (x % length pattern)) _ _ c.args.shape c.loop-y.y c.loop-y.invariant (omega (arith, c.row_count-y-end.ensures.value))
