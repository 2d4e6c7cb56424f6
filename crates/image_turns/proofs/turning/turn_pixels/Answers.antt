-- Each quarter turn is one of the ways in which columns become rows.
use Rattle.image_model.specs.Turns.{turned_right, turned_left}
use Rattle.image_turns.proofs.turning.turn_pixels.Goals as goal

pub returns-in-Right-clause-grid : goal.returns-in-Right-clause-grid
unfolding turned_right
returns-in-Right-clause-grid g c = rw c.in-Right.is c.quarter_pixels.ensures.grid

pub returns-in-Left-clause-grid : goal.returns-in-Left-clause-grid
unfolding turned_left
returns-in-Left-clause-grid g c = rw c.in-Left.is c.quarter_pixels-in-Left.ensures.grid
