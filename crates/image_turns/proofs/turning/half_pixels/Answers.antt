-- The rows so far are those of the source from the last one on, from right to left.
use Rattle.std.proofs.Common.{◌-◌, ◌<◌, length, take, drop, ap, ◌∙◌, arith}
use Rattle.std.specs.List.{slice_get}
use Rattle.image_model.specs.Layout.{Layout, pixel}
use Rattle.image_model.specs.Grid.{grid_of}
use Rattle.image_model.specs.Rows.{row as row_of, row_count}
use Rattle.image_model.specs.Turns.{turned_half}
use Rattle.image_model.proofs.Rows.{row_pixel}
use Rattle.image_shape.specs.Shape.{shaped}
use Rattle.image_writes.proofs.RowsWritten.{row_range, row_length, row_written}
use Rattle.image_turns.proofs.FromPlaces.{becomes_places}
use Rattle.image_turns.proofs.turning.half_pixels.Goals as goal

pub loop-y-preserved : goal.loop-y-preserved
loop-y-preserved g c =
    let s = c.args.shape in
    let y = c.loop-y.y in
    let from : Layout g.row.T.Denot = shaped c.args.source.now c.args.source_shape in
    let at = row_range s y c.range.ensures.start c.range.ensures.end c.row-place.ensures.start c.row-place.ensures.len in
    let below : y < row_count s.width s.height = omega (arith, c.row_count-y-end.ensures.value, c.loop-y-test.true) in
    let long = row_length _ _ c.loop-y.cells s y c.loop-y.invariant c.requires.fits below _ _ at in
    row_written _ _ c.loop-y.cells s y c.loop-y.invariant c.requires.fits below _ _ at _ c.copy_row_back.ensures.as_many
    (λ x column here.
    c.copy_row_back.ensures.taken.each x here
    ∙ ap (λ xs. slice_get xs (length (take (c.range.result.end - c.range.result.start) (drop c.range.result.start c.loop-y.cells)) - 1 - x)) c.row-from.ensures.value
    ∙ ap (λ n. slice_get (row_of from (c.height.result - 1 - y)) (n - 1 - x)) (long ∙ c.requires.width)
    ∙ row_pixel from (from.width - 1 - x) (c.height.result - 1 - y) (omega (arith, column, c.requires.width))
    ∙ ap (λ n. pixel from (from.width - 1 - x) (n - 1 - y)) c.height.ensures.value)

pub returns : goal.returns
unfolding grid_of turned_half
returns g c =
    let from : Layout g.row.T.Denot = shaped c.args.source.now c.args.source_shape in
    becomes_places from (λ x _. from.width - 1 - x) (λ _ y. from.height - 1 - y) _ _ c.args.shape c.loop-y.y c.loop-y.invariant _ _ c.requires.width c.requires.height (omega (arith, c.row_count-y-end.ensures.value))
    (λ x y column line. (omega (arith, column), omega (arith, line)))
