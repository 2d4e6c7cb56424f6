-- The rows so far have the value.
use Rattle.std.proofs.Common.{Some, ap, ◌∙◌, arith, length}
use Rattle.std.proofs.lemmas.List.{length-replicate}
use Rattle.image_model.specs.Grid.{uniform}
use Rattle.image_model.proofs.Cells.{slice_get-replicate}
use Rattle.image_writes.proofs.RowsWritten.{row_range, row_written, becomes_table}
use Rattle.image_ops.proofs.fill.fill_rows.Goals as goal

pub loop-y-preserved : goal.loop-y-preserved
loop-y-preserved g c =
    let at = row_range c.args.shape c.loop-y.y c.range.ensures.start c.range.ensures.end c.row-row.ensures.start c.row-row.ensures.len in
    let as_many = ap length c.fill_cells.ensures ∙ length-replicate _ c.args.value in
    row_written _ _ _ c.args.shape c.loop-y.y c.loop-y.invariant c.requires.fits (omega (arith, c.row_count-y-end.ensures.value)) _ _ at c.fill_cells.new.cells as_many
    (λ x column here. rw c.fill_cells.ensures (slice_get-replicate _ x c.args.value (omega (arith, here, as_many))))

pub returns : goal.returns
unfolding uniform
returns g c = becomes_table (λ _ _. Some c.args.value) _ _ c.args.shape c.loop-y.y c.loop-y.invariant (omega (arith, c.row_count-y-end.ensures.value))
