use Rattle.std.proofs.Common.{◌≡◌, ◌+◌, ◌*◌, ◌≤◌, length, sum}
use Rattle.imgref.specs.Pixels.{copies_left}
use Rattle.imgref.specs.Words.{grid_pixels, window_view, as_window, ref_grid}
use Rattle.imgref_examples.proofs.sums.window_sum.Given as goal

abbrev pub invariant-loop-pixel : goal.invariant-loop-pixel
invariant-loop-pixel l =
    (goal.iterator-loop-pixel).can_next l.pixel-iterator ×
    (goal.iterator-loop-pixel).is_finite l.pixel-iterator ×
    (l.total + sum (copies_left l.pixel-iterator) ≡ sum (grid_pixels (window_view (ref_grid l.fn.image) (as_window l.fn.window)))) ×
    (l.total + 255 * length (copies_left l.pixel-iterator) ≤ 255 * (l.fn.window.width * l.fn.window.height))
