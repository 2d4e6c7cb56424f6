-- The rows so far are answers, and nothing else has changed.
use Rattle.std.proofs.Common.{◌<◌, ◌∙◌, ap, sym, arith, rules}
use Rattle.std.specs.List.{slice_get}
use Rattle.std.proofs.lemmas.Grind.{common_steps}
use Rattle.image_model.specs.Rows.{row_count}
use Rattle.image_shape.specs.Shape.{shaped}
use Rattle.image_model.proofs.ByPlace.{is_zipped}
use Rattle.image_model.proofs.Rows.{row_count-le, row_pixel}
use Rattle.image_ops.proofs.Elements.{in_row, row_element}
use Rattle.image_writes.proofs.RowsWritten.{row_range, row_length, cell_of_row, row_written, all_right}
use Rattle.image_ops.proofs.places.zip_pixels.Goals as goal

pub zip_row-requires-clause-callable : goal.zip_row-requires-clause-callable
zip_row-requires-clause-callable g c = λ x p q here there.
    let at = row_range c.args.shape c.loop-y.y c.range.ensures.start c.range.ensures.end c.row-place.ensures.start c.row-place.ensures.len in
    let below : c.loop-y.y < row_count c.args.shape.width c.args.shape.height = omega (arith, c.row_count-y-end.ensures.value) in
    let column = in_row _ x p _ here (row_length _ _ _ c.args.shape c.loop-y.y c.loop-y.invariant c.requires.fits below _ _ at) in
    c.requires.callable x c.loop-y.y p q column (omega (arith, below, row_count-le c.args.shape.width c.args.shape.height))
    (sym (cell_of_row _ _ _ c.args.shape c.loop-y.y c.loop-y.invariant _ _ x at column) ∙ here)
    (row_element (shaped c.args.others.now c.args.other_shape) x c.loop-y.y _ q (omega (arith, column, c.requires.same_width)) c.row.ensures.value there)

pub loop-y-preserved : goal.loop-y-preserved
loop-y-preserved g c =
    let made = c.zip_row in
    let at = row_range c.args.shape c.loop-y.y c.range.ensures.start c.range.ensures.end c.row-place.ensures.start c.row-place.ensures.len in
    row_written _ _ _ c.args.shape c.loop-y.y c.loop-y.invariant c.requires.fits (omega (arith, c.row_count-y-end.ensures.value)) _ _ at made.new.cells made.ensures.as_many
    (λ x column here p r was is q there.
    made.ensures.each x p r (cell_of_row _ _ _ c.args.shape c.loop-y.y c.loop-y.invariant _ _ x at column ∙ was) is q
    (ap (λ xs. slice_get xs x) c.row.ensures.value ∙ row_pixel (shaped c.args.others.now c.args.other_shape) x c.loop-y.y (omega (arith, column, c.requires.same_width)) ∙ there))

pub returns-clause-answers : goal.returns-clause-answers
returns-clause-answers g c = λ x j p q r column line was there is.
    all_right _ _ _ c.args.shape c.loop-y.y c.loop-y.invariant (omega (arith, c.row_count-y-end.ensures.value)) x j column line p r was is q there

pub returns-clause-grid : goal.returns-clause-grid
returns-clause-grid g c =
    is_zipped _ (shaped c.args.cells.now c.args.shape) (shaped c.args.others.now c.args.other_shape) (shaped c.loop-y.cells c.args.shape) c.requires.fits c.requires.other_fits c.requires.same_width c.requires.same_height (search rules) (returns-clause-answers g c)

pub offset_bounds-cells-range : goal.offset_bounds-cells-range
offset_bounds-cells-range g c = grind (arith, common_steps)

pub row-requires-clause-fits : goal.row-requires-clause-fits
row-requires-clause-fits g c = grind (arith, common_steps)

pub returns-clause-outside : goal.returns-clause-outside
returns-clause-outside g c = grind (arith, common_steps)
