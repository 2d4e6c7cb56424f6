-- The rows so far have changed, and nothing else.
use Rattle.std.proofs.Common.{◌∙◌, arith}
use Rattle.image_model.specs.Grid.{grid_of}
use Rattle.image_model.specs.Turns.{swapped_column, columns_swapped}
use Rattle.image_shape.specs.Shape.{shaped}
use Rattle.image_turns.proofs.Crossing.{row_from, from_rows, swapped_within}
use Rattle.image_writes.proofs.RowsWritten.{row_range, row_written, shows_table}
use Rattle.image_turns.proofs.flipping.swap_columns.Goals as goal

pub loop-y-preserved : goal.loop-y-preserved
loop-y-preserved g c =
    let made = c.swap_cells in
    let at = row_range c.args.shape c.loop-y.y c.range.ensures.start c.range.ensures.end c.row-row.ensures.start c.row-row.ensures.len in
    row_written _ _ _ c.args.shape c.loop-y.y c.loop-y.invariant c.requires.fits (omega (arith, c.row_count-y-end.ensures.value)) _ _ at made.new.row made.ensures.as_many
    (row_from (swapped_column c.args.x c.args.z) _ _ made.new.row c.args.shape c.loop-y.y _ _ c.loop-y.invariant at made.ensures.swapped (λ x column. swapped_within c.args.x c.args.z x c.args.shape.width c.requires.first c.requires.second column))

pub returns-clause-grid : goal.returns-clause-grid
unfolding grid_of columns_swapped
returns-clause-grid g c =
    shows_table _ _ _ c.args.shape c.loop-y.y c.loop-y.invariant (omega (arith, c.row_count-y-end.ensures.value))
    ∙ from_rows (swapped_column c.args.x c.args.z) (shaped c.args.cells.now c.args.shape) (λ x column. swapped_within c.args.x c.args.z x c.args.shape.width c.requires.first c.requires.second column)
