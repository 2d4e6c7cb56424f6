-- The block is read, transposed and written. So the image shows there what was written, and that is what all pixels would show.
use Rattle.std.proofs.Common.{sym, ap, ◌∙◌, subst, arith}
use Rattle.image_model.specs.Grid.{Grid, grid_of, patch}
use Rattle.image_model.specs.Turns.{transposed}
use Rattle.image_model.specs.Windows.{window_view}
use Rattle.image_shape.specs.Shape.{shaped_grid}
use Rattle.image_turns.specs.Blocks.{block_grid, read_over}
use Rattle.image_turns.specs.Quarters.{quartered, first_column, first_row, writes_back}
use Rattle.image_writes.specs.Written.{Becomes}
use Rattle.image_writes.proofs.WindowWrites.{part_becomes}
use Rattle.image_turns.proofs.QuarterBlocks.{read_transposed, view_quartered}
use Rattle.image_turns.proofs.Shuffles.{as_block}
use Rattle.image_turns.proofs.turning.quarter_at.Goals as goal

pub returns : goal.returns
unfolding grid_of
returns g c =
    let a = c.args in
    let square = c.block_shape-square in
    let as_blocks = as_block square.result square.ensures.width square.ensures.height square.ensures.stride in
    let seen : Grid g.row.T.Denot = shaped_grid c.padded_part.result.0.now c.padded_part.result.1 in
    let read = ap block_grid c.as_mut_slice-2.ensures.value ∙ sym (as_blocks c.read_rows.new.cells) ∙ c.read_rows.ensures.grid ∙ ap (λ back. read_over back seen) c.reads_back.ensures in
    let crossed = as_blocks c.as_slice.result.now ∙ ap block_grid c.as_slice.ensures ∙ c.transpose_block.ensures.grid ∙ ap transposed read in
    let written =
    c.read_rows-2.ensures.grid ∙ ap (λ back. read_over back (shaped_grid c.as_slice.result.now square.result)) c.writes_back.ensures ∙ ap (read_over (writes_back a.from.crossing)) crossed ∙ read_transposed a.from.crossing seen in
    let from : Grid g.row.T.Denot = shaped_grid a.source.now a.from.shape in
    let is_column = c.first_column-column.ensures ∙ ap (λ n. first_column a.from.crossing n a.top 16) c.width.ensures.value in
    let is_line = c.first_row-line.ensures ∙ ap (λ n. first_row a.from.crossing n a.left 16) c.height.ensures.value in
    let shown = ap (quartered a.from.crossing) (c.padded_part.ensures.view ∙ ap (window_view from) c.new-place.ensures)
    ∙ view_quartered a.from.crossing from a.left a.top 16 16 c.first_column-column.result c.first_row-line.result (omega (arith, c.requires.wide, c.requires.sizes.columns)) (omega (arith, c.requires.high, c.requires.sizes.lines)) is_column is_line in
    subst (Becomes a.shape _ _)
    (ap (λ w. patch (shaped_grid a.cells.now a.shape) w.left w.top (quartered a.from.crossing seen)) c.new.ensures ∙ ap (patch (shaped_grid a.cells.now a.shape) a.left a.top) shown)
    (part_becomes _ _ _ _ _ _ c.exact_part.ensures.part _ _ (record { grid = written; outside = c.read_rows-2.ensures.outside }))
