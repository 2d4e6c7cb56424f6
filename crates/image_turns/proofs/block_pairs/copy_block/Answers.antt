-- The block is the view of the image.
use Rattle.std.proofs.Common.{◌∙◌}
use Rattle.image_turns.proofs.SquareBlocks.{read_window}
use Rattle.image_turns.proofs.block_pairs.copy_block.Goals as goal

pub returns-clause-grid : goal.returns-clause-grid
returns-clause-grid g c = c.read_rows.ensures.grid ∙ read_window _ _ c.padded_part.ensures.view
