-- The places so far are blurred, row by row and from left to right, and the padding stays.
use Rattle.std.proofs.Common.{◌≡◌}
use Rattle.imgref.specs.Words.{Fits, SameOutside, ref_grid, table_upto, vec_grid, vec_layout}
use Rattle.imgref_examples.specs.Blur.{blurred}
use Rattle.imgref_examples.proofs.blur.box_blur_3x3.Given as goal

abbrev pub invariant-loop-x : goal.invariant-loop-x
invariant-loop-x l = Fits (vec_layout l.dst) × SameOutside (vec_layout l.fn.dst) (vec_layout l.dst) × (vec_grid l.dst ≡ table_upto (blurred (ref_grid l.fn.src) (vec_grid l.fn.dst)).pixel l.x l.y (vec_grid l.fn.dst))

abbrev pub invariant-loop-y : goal.invariant-loop-y
invariant-loop-y l = Fits (vec_layout l.dst) × SameOutside (vec_layout l.fn.dst) (vec_layout l.dst) × (vec_grid l.dst ≡ table_upto (blurred (ref_grid l.fn.src) (vec_grid l.fn.dst)).pixel 0 l.y (vec_grid l.fn.dst))
