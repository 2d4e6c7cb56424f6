-- The rows so far are those of the source, in the order in which they are read.
use Rattle.std.proofs.Common.{◌≡◌, ◌-◌, take, drop, sym, ap, ◌∙◌, arith}
use Rattle.std.specs.List.{slice_get}
use Rattle.image_model.specs.Layout.{pixel}
use Rattle.image_model.specs.Grid.{grid_of}
use Rattle.image_model.specs.Rows.{row}
use Rattle.image_model.proofs.Rows.{row_pixel, row_stretch}
use Rattle.image_shape.specs.Shape.{shaped}
use Rattle.image_turns.specs.Blocks.{line_read}
use Rattle.image_writes.proofs.RowsWritten.{row_range, row_written}
use Rattle.image_turns.proofs.FromPlaces.{becomes_places}
use Rattle.image_turns.proofs.Shuffles.{line_within}
use Rattle.image_turns.proofs.blocks.read_rows.Goals as goal

pub loop-y-preserved : goal.loop-y-preserved
loop-y-preserved g c =
    let y = c.loop-y.y in
    let from = shaped c.args.source.now c.args.source_shape in
    let line = c.line_read-line.result in
    let read = c.range-in-loop-y in
    let at = row_range c.args.shape y c.range.ensures.start c.range.ensures.end c.row-row.ensures.start c.row-row.ensures.len in
    let many : read.result.end - read.result.start ≡ from.width = omega (arith, read.ensures.start, read.ensures.end, c.row-from.ensures.len) in
    let cells : c.copy_row.new.cells ≡ row from line =
    c.copy_row.ensures.after ∙ (λ i. take (many i) (drop ((read.ensures.start ∙ c.row-from.ensures.start) i) from.cells)) ∙ sym (row_stretch from line) in
    row_written _ _ _ c.args.shape y c.loop-y.invariant c.requires.sizes.fits (omega (arith, c.row_count-y-end.ensures.value)) _ _ at c.copy_row.new.cells
    c.copy_row.ensures.as_many
    (λ x column here. ap (λ r. slice_get r x) cells ∙ row_pixel from x line (omega (arith, column, c.requires.sizes.width)) ∙ ap (pixel from x) (c.line_read-line.ensures ∙ ap (λ n. line_read c.args.back n y) c.height.ensures.value))

pub returns : goal.returns
unfolding grid_of
returns g c =
    let from = shaped c.args.source.now c.args.source_shape in
    becomes_places from (λ x _. x) (λ _ y. line_read c.args.back from.height y) _ _ c.args.shape c.loop-y.y c.loop-y.invariant _ _ c.requires.sizes.width c.requires.sizes.height (omega (arith, c.row_count-y-end.ensures.value))
    (λ x y column line. (column, line_within c.args.back from.height y line))
