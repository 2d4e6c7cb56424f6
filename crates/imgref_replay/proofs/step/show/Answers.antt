-- The window is inside the image that the place names, which fits.
use Rattle.image_model.specs.Grid.{grid_of}
use Rattle.std.proofs.Common.{arith}
use Rattle.imgref_replay.proofs.Images.{fits_at, grid_at-images}
use Rattle.imgref_replay.proofs.step.show.Goals as goal

pub window-requires : goal.window-requires
unfolding grid_of
window-requires g c = grind (arith, fits_at, grid_at-images)

pub returns-clause-view : goal.returns-clause-view
returns-clause-view g c = grind (arith, grid_at-images)
