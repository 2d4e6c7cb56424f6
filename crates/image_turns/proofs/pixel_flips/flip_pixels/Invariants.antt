use Rattle.std.proofs.Common.{◌≡◌}
use Rattle.image_model.specs.Flips.{flipped_upto}
use Rattle.image_model.specs.Layout.{Fits, SameOutside}
use Rattle.image_shape.specs.Shape.{shaped, shaped_grid}
use Rattle.image_turns.proofs.pixel_flips.flip_pixels.Given as goal

abbrev pub invariant-loop-y : goal.invariant-loop-y
invariant-loop-y g l = Fits (shaped l.cells l.shape) × SameOutside (shaped l.initial.cells l.shape) (shaped l.cells l.shape) × (shaped_grid l.cells l.shape ≡ flipped_upto l.y (shaped_grid l.initial.cells l.shape))
