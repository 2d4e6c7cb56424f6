use Rattle.std.proofs.Common.{◌∙◌, ap}
use Rattle.image_model.specs.Layout.{layout}
use Rattle.image_model.specs.Rows.{rows}
use Rattle.image_shape.specs.Shape.{shape_width, shape_height, shape_stride, shaped}
use Rattle.image_rows.specs.Rows.{refs_left}
use Rattle.image_rows.proofs.RowsLeft.{rows_counted, are_rows}
use Rattle.image_rows.proofs.reading.RowsIter.new.Goals as goal

pub returns : goal.returns
unfolding refs_left
returns g c =
    let cells = c.args.cells.now in
    let shape = c.args.shape in
    let are = ap (λ s. rows (layout cells s.width s.count s.stride)) c.whole-spacing.ensures.value ∙ rows_counted cells (shape_width shape) (shape_stride shape) (shape_height shape) in
    record { whole = are_rows (shaped cells shape) _ are c.whole-spacing.ensures.small c.requires.fits }
