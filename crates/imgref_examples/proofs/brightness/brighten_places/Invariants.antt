-- The pixels so far are brighter, row by row and from left to right, and the padding stays.
use Rattle.std.proofs.Common.{◌≡◌}
use Rattle.imgref.specs.Words.{Fits, SameOutside, table_upto, vec_grid, vec_layout}
use Rattle.imgref_examples.specs.Brightness.{brightened}
use Rattle.imgref_examples.proofs.brightness.brighten_places.Given as goal

abbrev pub invariant-loop-x : goal.invariant-loop-x
invariant-loop-x l = Fits (vec_layout l.image) × SameOutside (vec_layout l.fn.image) (vec_layout l.image) × (vec_grid l.image ≡ table_upto (brightened l.fn.by (vec_grid l.fn.image)).pixel l.x l.y (vec_grid l.fn.image))

abbrev pub invariant-loop-y : goal.invariant-loop-y
invariant-loop-y l = Fits (vec_layout l.image) × SameOutside (vec_layout l.fn.image) (vec_layout l.image) × (vec_grid l.image ≡ table_upto (brightened l.fn.by (vec_grid l.fn.image)).pixel 0 l.y (vec_grid l.fn.image))
