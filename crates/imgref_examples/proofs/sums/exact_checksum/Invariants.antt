use Rattle.std.proofs.Common.{◌≡◌, ◌+◌, ◌*◌, ◌≤◌, length, sum}
use Rattle.imgref.specs.Pixels.{copies_left}
use Rattle.imgref.specs.Words.{grid_pixels, width_of, height_of, ref_grid}
use Rattle.imgref_examples.proofs.sums.exact_checksum.Given as goal

abbrev pub invariant-loop-pixel : goal.invariant-loop-pixel
invariant-loop-pixel l =
    (goal.iterator-loop-pixel).can_next l.pixel-iterator ×
    (goal.iterator-loop-pixel).is_finite l.pixel-iterator ×
    (l.sum + sum (copies_left l.pixel-iterator) ≡ sum (grid_pixels (ref_grid l.fn.image))) ×
    (l.sum + 255 * length (copies_left l.pixel-iterator) ≤ 255 * (width_of l.fn.image * height_of l.fn.image))
