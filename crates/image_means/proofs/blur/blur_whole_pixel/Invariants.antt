-- The samples before this one are means, and their numbers are those of the boxes around the pixel.
use Rattle.std.proofs.Common.{◌≡◌, ◌<◌, ◌≤◌, ◌+◌, ◌/◌, ℕ, length}
use Rattle.image_means.specs.Blur.{sum_at, whole_count, AreSumsBefore, BlursSpan, IsSumBefore}
use Rattle.image_means.proofs.blur.blur_whole_pixel.Given as goal

abbrev pub invariant-loop-i : goal.invariant-loop-i
invariant-loop-i l = record {
  as_many : length l.numbers ≡ length l.fn.numbers;
  done : AreSumsBefore l.fn.place l.sums (l.p + 1) (whole_count l.fn.place / 2) l.i l.numbers;
  left : (j : ℕ) → l.i ≤ j → j < length l.fn.numbers → IsSumBefore l.sums l.per (l.at + j) l.across l.p (whole_count l.fn.place / 2) (sum_at l.numbers j);
  means : BlursSpan l.fn.place l.i l.sums l.p (l.p + 1) l.fn.row l.row;
}
