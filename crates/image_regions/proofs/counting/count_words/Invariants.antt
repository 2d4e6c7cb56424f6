use Rattle.std.proofs.Common.{◌≡◌, length}
use Rattle.imgref.specs.Pixels.{copies_left}
use Rattle.imgref.specs.Words.{counted, histogram_of, grid_pixels, ref_grid}
use Rattle.image_regions.proofs.counting.count_words.Given as goal

abbrev pub invariant-loop-word : goal.invariant-loop-word
invariant-loop-word l =
    (goal.iterator-loop-word).can_next l.word-iterator ×
    (goal.iterator-loop-word).is_finite l.word-iterator ×
    (length l.counts ≡ l.values) ×
    (counted l.values l.counts (copies_left l.word-iterator) ≡ histogram_of l.values (grid_pixels (ref_grid l.fn.image)))
