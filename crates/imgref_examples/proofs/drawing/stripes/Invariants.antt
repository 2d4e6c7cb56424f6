-- The rows so far are striped, and the padding stays.
use Rattle.std.proofs.Common.{◌≡◌}
use Rattle.image_model.specs.Layout.{Fits, SameOutside}
use Rattle.imgref.specs.Image.{vec_grid, vec_layout}
use Rattle.imgref_examples.specs.Stripes.{striped_upto}
use Rattle.imgref_examples.proofs.drawing.stripes.Given as goal

abbrev pub invariant-loop-y : goal.invariant-loop-y
invariant-loop-y l = Fits (vec_layout l.image) × SameOutside (vec_layout l.fn.image) (vec_layout l.image) × (vec_grid l.image ≡ striped_upto l.y (vec_grid l.fn.image))
