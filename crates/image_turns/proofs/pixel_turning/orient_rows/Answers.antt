-- The rows so far come from the source.
use borrow.Author.Rules.{rules, scaled_fits≤}
use Rattle.std.proofs.Common.{◌<◌, refl, subst, arith}
use Rattle.image_model.specs.Layout.{Layout}
use Rattle.image_model.specs.Rows.{row_count}
use Rattle.image_shape.specs.Shape.{shaped}
use Rattle.image_writes.specs.Written.{Becomes}
use Rattle.image_writes.proofs.RowsWritten.{row_range}
use Rattle.image_turns.proofs.FromPlaces.{row_gathered, becomes_places}
use Rattle.image_turns.proofs.Oriented.{shown_column, shown_row, shown_within, view_shown}
use Rattle.image_turns.proofs.pixel_turning.orient_rows.Goals as goal

pub loop-y-preserved : goal.loop-y-preserved
loop-y-preserved g c =
    let a = c.args in
    let s = a.shape in
    let y = c.loop-y.y in
    let from : Layout g.row.T.Denot = shaped a.source.now a.origin.shape in
    let at = row_range s y c.range.ensures.start c.range.ensures.end c.row-row.ensures.start c.row-row.ensures.len in
    let below : y < row_count s.width s.height = omega (arith, c.row_count-y-end.ensures.value, c.loop-y-test.true) in
    row_gathered from (shown_column g.row.N c.requires.some a.origin.orientation from a.origin.columns c.requires.source_width a.left) (shown_row g.row.N c.requires.some a.origin.orientation from a.origin.columns c.requires.source_width a.left) _ c.loop-y.cells s y c.loop-y.invariant
    _ _ c.requires.fits below at c.take_pixels.ensures.as_many c.take_pixels.ensures.taken (λ x column. refl)

pub returns : goal.returns
returns g c =
    let a = c.args in
    let from : Layout g.row.T.Denot = shaped a.source.now a.origin.shape in
    let column = shown_column g.row.N c.requires.some a.origin.orientation from a.origin.columns c.requires.source_width a.left in
    let line = shown_row g.row.N c.requires.some a.origin.orientation from a.origin.columns c.requires.source_width a.left in
    subst (Becomes a.shape _ _)
    (view_shown g.row.N c.requires.some a.origin.orientation from a.origin.columns c.requires.source_width a.left a.count a.shape.height c.requires.across c.requires.height)
    (becomes_places from column line _ _ a.shape c.loop-y.y c.loop-y.invariant _ _ c.requires.width refl (omega (arith, c.row_count-y-end.ensures.value))
    (shown_within g.row.N c.requires.some a.origin.orientation from a.origin.columns c.requires.source_width a.left a.count a.shape.height c.requires.across c.requires.height))

pub offset_bounds-cells-range : goal.offset_bounds-cells-range
offset_bounds-cells-range g c = search (rules, scaled_fits≤) depth 2 fits 100
