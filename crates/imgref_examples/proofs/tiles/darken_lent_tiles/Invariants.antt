use Rattle.std.proofs.Common.{◌≡◌, true, fold}
use Rattle.image_tiles.specs.Tiling.{windows_left}
use Rattle.imgref.specs.Words.{Fits, SameOutside, tiles, are_inside, width_of, height_of, vec_grid, vec_layout}
use Rattle.imgref_examples.specs.Darkened.{darkened}
use Rattle.imgref_examples.proofs.tiles.darken_lent_tiles.Given as goal

abbrev pub invariant-loop-window : goal.invariant-loop-window
invariant-loop-window l = (goal.iterator-loop-window).can_next l.window-iterator × (goal.iterator-loop-window).is_finite l.window-iterator
    × Fits (vec_layout l.image) × SameOutside (vec_layout l.fn.image) (vec_layout l.image) × (are_inside (width_of l.image) (height_of l.image) (windows_left l.window-iterator) ≡ true)
    × (fold darkened (vec_grid l.image) (windows_left l.window-iterator) ≡ fold darkened (vec_grid l.fn.image) (tiles (width_of l.fn.image) (height_of l.fn.image) 8 8))
