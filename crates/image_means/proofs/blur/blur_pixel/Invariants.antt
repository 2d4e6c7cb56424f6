-- The samples before this one are means, and their sums are those of the boxes around the pixel.
use Rattle.std.proofs.Common.{◌≡◌, ◌≤◌, ◌+◌, ℕ, length}
use Rattle.image_means.specs.Blur.{sum_at, AreSumsBefore, BlursSpan}
use Rattle.image_means.proofs.blur.blur_pixel.Given as goal

abbrev pub invariant-loop-i : goal.invariant-loop-i
invariant-loop-i l = record {
  as_many : length l.totals ≡ length l.fn.totals;
  done : AreSumsBefore l.fn.place l.sums (l.p + 1) 0 l.i l.totals;
  left : (j : ℕ) → l.i ≤ j → sum_at l.totals j ≡ sum_at l.fn.totals j;
  means : BlursSpan l.fn.place l.i l.sums l.p (l.p + 1) l.fn.row l.row;
}
