-- The pixels so far are inverted, row by row and from left to right, and the padding stays.
use Rattle.std.proofs.Common.{◌≡◌, ◌-◌}
use Rattle.image_model.specs.Mapped.{mapped}
use Rattle.imgref.specs.Words.{Fits, SameOutside, table_upto, mut_grid, mut_layout}
use Rattle.imgref_examples.proofs.pixels.invert_lent.Given as goal

abbrev pub invariant-loop-x : goal.invariant-loop-x
invariant-loop-x l = Fits (mut_layout l.image) × SameOutside (mut_layout l.fn.image) (mut_layout l.image) × (mut_grid l.image ≡ table_upto (mapped (λ p. 255 - p) (mut_grid l.fn.image)).pixel l.x l.y (mut_grid l.fn.image))

abbrev pub invariant-loop-y : goal.invariant-loop-y
invariant-loop-y l = Fits (mut_layout l.image) × SameOutside (mut_layout l.fn.image) (mut_layout l.image) × (mut_grid l.image ≡ table_upto (mapped (λ p. 255 - p) (mut_grid l.fn.image)).pixel 0 l.y (mut_grid l.fn.image))
