-- What was filled is the window, and the image is as it was outside.
use Rattle.imgref_examples.proofs.tiles.fill_lent.Goals as goal

pub returns-clause-outside : goal.returns-clause-outside
returns-clause-outside c = c.window_parts_mut-cells.ensures.outside c.fill_tile.new.cells c.fill_tile.ensures.outside
