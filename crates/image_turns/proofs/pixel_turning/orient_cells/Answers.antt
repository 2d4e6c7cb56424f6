-- Each orientation is a turn, or the transposed source.
use Rattle.std.proofs.Common.{◌∙◌}
use Rattle.image_turns.specs.declared.pixel_turning.Orientation.TheVariants.{Transposed, Right, Half, Left}
use Rattle.image_turns.proofs.Oriented.{placed_cells}
use Rattle.image_turns.proofs.pixel_turning.orient_cells.Goals as goal

pub returns-in-Transposed : goal.returns-in-Transposed
returns-in-Transposed g c = rw c.in-Transposed.is (record { grid = c.transpose_pixels.ensures.grid ∙ placed_cells Transposed _; outside = c.transpose_pixels.ensures.outside })

pub returns-in-Right : goal.returns-in-Right
returns-in-Right g c = rw c.in-Right.is (record { grid = c.turn_pixels.ensures.grid ∙ placed_cells Right _; outside = c.turn_pixels.ensures.outside })

pub returns-in-Half : goal.returns-in-Half
returns-in-Half g c = rw c.in-Half.is (record { grid = c.turn_pixels-in-Half.ensures.grid ∙ placed_cells Half _; outside = c.turn_pixels-in-Half.ensures.outside })

pub returns-in-Left : goal.returns-in-Left
returns-in-Left g c = rw c.in-Left.is (record { grid = c.turn_pixels-in-Left.ensures.grid ∙ placed_cells Left _; outside = c.turn_pixels-in-Left.ensures.outside })
