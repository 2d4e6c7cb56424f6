use Rattle.std.proofs.Common.{◌≡◌}
use Rattle.imgref.specs.Words.{Fits, SameOutside, flipped_upto, vec_grid, vec_layout}
use Rattle.imgref_examples.proofs.upside_down.flip.Given as goal

abbrev pub invariant-loop-y : goal.invariant-loop-y
invariant-loop-y l = Fits (vec_layout l.image) × SameOutside (vec_layout l.fn.image) (vec_layout l.image) × (vec_grid l.image ≡ flipped_upto l.y (vec_grid l.fn.image))
