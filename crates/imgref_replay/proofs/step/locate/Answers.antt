-- A place's image is there; its path decides, and comes to the window that the place names.
use Rattle.std.proofs.Common.{arith}
use Rattle.image_model.specs.Grid.{grid_of}
use Rattle.imgref_replay.proofs.Images.{grid_at-images, fault_named}
use Rattle.imgref_replay.proofs.step.locate.Goals as goal

pub returns-in-Ok : goal.returns-in-Ok
unfolding grid_of
returns-in-Ok g c = grind (arith, grid_at-images, fault_named)

pub returns-in-Err-clause-fault : goal.returns-in-Err-clause-fault
returns-in-Err-clause-fault g c = grind (arith, fault_named)
