use Rattle.std.proofs.Common.{◌≡◌, length}
use Rattle.imgref.specs.Pixels.{copies_left}
use Rattle.imgref.specs.Words.{counted, histogram_of, grid_pixels, ref_grid}
use Rattle.image_regions.proofs.counting.histogram.Given as goal

abbrev pub invariant-loop-pixel : goal.invariant-loop-pixel
invariant-loop-pixel l =
    (goal.iterator-loop-pixel).can_next l.pixel-iterator ×
    (goal.iterator-loop-pixel).is_finite l.pixel-iterator ×
    (length l.counts ≡ 256) ×
    (counted 256 l.counts (copies_left l.pixel-iterator) ≡ histogram_of 256 (grid_pixels (ref_grid l.fn.image)))
