use Rattle.std.proofs.Common.{◌≡◌, ◌-◌}
use Rattle.image_model.specs.MappedRows.{mapped_upto}
use Rattle.imgref.specs.Words.{Fits, SameOutside, vec_grid, vec_layout}
use Rattle.imgref_examples.proofs.pixels.invert_owner.Given as goal

abbrev pub invariant-loop-y : goal.invariant-loop-y
invariant-loop-y l = Fits (vec_layout l.image) × SameOutside (vec_layout l.fn.image) (vec_layout l.image) × (vec_grid l.image ≡ mapped_upto (λ p. 255 - p) l.y (vec_grid l.fn.image))
