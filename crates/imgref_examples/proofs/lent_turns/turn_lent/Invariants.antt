use Rattle.std.proofs.Common.{◌≡◌}
use Rattle.imgref.specs.Words.{Fits, SameOutside, SameBorrow, table_upto, height_of, ref_grid, mut_grid, mut_layout}
use Rattle.imgref_examples.specs.Scenes.{turned_pixel}
use Rattle.imgref_examples.proofs.lent_turns.turn_lent.Given as goal

abbrev pub invariant-loop-x : goal.invariant-loop-x
invariant-loop-x g l = SameBorrow l.fn.dst l.dst × Fits (mut_layout l.dst) × SameOutside (mut_layout l.fn.dst) (mut_layout l.dst) × (mut_grid l.dst ≡ table_upto (turned_pixel (height_of l.fn.src) (ref_grid l.fn.src)) l.x l.y (mut_grid l.fn.dst))

abbrev pub invariant-loop-y : goal.invariant-loop-y
invariant-loop-y g l = SameBorrow l.fn.dst l.dst × Fits (mut_layout l.dst) × SameOutside (mut_layout l.fn.dst) (mut_layout l.dst) × (mut_grid l.dst ≡ table_upto (turned_pixel (height_of l.fn.src) (ref_grid l.fn.src)) 0 l.y (mut_grid l.fn.dst))
