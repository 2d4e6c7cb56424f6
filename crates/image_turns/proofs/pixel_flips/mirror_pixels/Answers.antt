-- A pixel of one cell is that cell.
use Rattle.std.proofs.Common.{◌∙◌}
use Rattle.image_turns.proofs.PixelFlips.{mirrored_cells}
use Rattle.image_turns.proofs.pixel_flips.mirror_pixels.Goals as goal

pub returns-in-1-clause-grid : goal.returns-in-1-clause-grid
returns-in-1-clause-grid g c = c.flip_columns.ensures.grid ∙ mirrored_cells c.args.size _ c.in-1.is
