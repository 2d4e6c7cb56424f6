-- The block is the view of the image, transposed.
use Rattle.std.proofs.Common.{sym, ap, ◌∙◌}
use Rattle.image_model.specs.Turns.{transposed}
use Rattle.image_model.specs.Windows.{window_view}
use Rattle.image_shape.specs.Shape.{shaped_grid}
use Rattle.image_turns.proofs.Shuffles.{as_block}
use Rattle.image_turns.proofs.SquareBlocks.{read_window}
use Rattle.image_turns.proofs.squares.read_across.Goals as goal

pub returns-clause-grid : goal.returns-clause-grid
returns-clause-grid g c =
    let from = shaped_grid c.args.cells.now c.args.shape in
    let square = c.block_shape in
    let read = sym (as_block square.result square.ensures.width square.ensures.height square.ensures.stride c.read_rows.new.cells) ∙ c.read_rows.ensures.grid in
    c.transpose_block.ensures.grid ∙ ap transposed (read ∙ read_window from _ (c.padded_part.ensures.view ∙ ap (window_view from) c.new.ensures))
