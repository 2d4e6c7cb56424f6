-- The mean of samples of one byte is that of cells.
use Rattle.image_means.proofs.means.mean_samples.Goals as goal

pub returns-in-One-clause-grid : goal.returns-in-One-clause-grid
returns-in-One-clause-grid c = rw c.in-One.is c.mean_window.ensures.grid
