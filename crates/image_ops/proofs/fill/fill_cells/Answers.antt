use Rattle.std.proofs.Common.{◌<◌, length, set, ap, ◌∙◌, arith}
use Rattle.image_writes.proofs.RowsWritten.{filled_more}
use Rattle.image_ops.proofs.fill.fill_cells.Goals as goal

pub loop-cell-preserved : goal.loop-cell-preserved
loop-cell-preserved g c =
    let n = c.loop-cell.cell-index in
    let within : n < length c.args.cells.now = omega arith in
    ap (λ xs. set xs n c.args.value) c.loop-cell.invariant ∙ filled_more n c.args.value c.args.cells.now within
