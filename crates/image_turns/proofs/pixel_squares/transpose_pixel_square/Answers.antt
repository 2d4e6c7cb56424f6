-- A pixel of one cell is that cell.
use Rattle.std.proofs.Common.{◌∙◌}
use Rattle.image_turns.specs.declared.pixel_turning.Orientation.TheVariants.{Transposed}
use Rattle.image_turns.proofs.Oriented.{placed_cells}
use Rattle.image_turns.proofs.pixel_squares.transpose_pixel_square.Goals as goal

pub returns-in-1 : goal.returns-in-1
returns-in-1 g c = rw c.in-1.is (record { grid = c.transpose_square.ensures.grid ∙ placed_cells Transposed _; outside = c.transpose_square.ensures.outside })
