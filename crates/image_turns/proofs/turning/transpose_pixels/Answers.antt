use Rattle.image_model.specs.Turns.{transposed}
use Rattle.image_turns.proofs.turning.transpose_pixels.Goals as goal

pub returns-clause-grid : goal.returns-clause-grid
unfolding transposed
returns-clause-grid g c = c.quarter_pixels.ensures.grid
