use Rattle.std.proofs.Common.{◌∙◌, drop, ap, refl}
use Rattle.image_model.specs.Layout.{layout}
use Rattle.image_model.specs.Rows.{rows}
use Rattle.image_shape.specs.Shape.{shape_width, shape_height, shape_stride, shaped}
use Rattle.image_rows.specs.Rows.{muts_left}
use Rattle.image_rows.proofs.RowsLeft.{rows_counted, are_rows}
use Rattle.image_rows.proofs.writing.RowsIterMut.new.Goals as goal

pub returns : goal.returns
unfolding muts_left
returns g c =
    let cells = c.args.cells.now in
    let shape = c.args.shape in
    let are = ap (λ s. rows (layout (drop s.skip cells) s.width s.count s.stride)) c.whole.ensures.value ∙ rows_counted cells (shape_width shape) (shape_stride shape) (shape_height shape) in
    record { name = refl; cells = refl; spacing = c.whole.ensures.value; whole = are_rows (shaped cells shape) _ are c.whole.ensures.small c.requires.fits }
