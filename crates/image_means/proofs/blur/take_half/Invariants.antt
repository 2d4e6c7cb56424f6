-- The sums before this one are done.
use Rattle.std.proofs.Common.{◌≡◌, ◌<◌, ◌+◌, ℕ, length}
use Rattle.image_means.specs.Blur.{sum_at}
use Rattle.image_means.proofs.blur.take_half.Given as goal

abbrev pub invariant-loop-i : goal.invariant-loop-i
invariant-loop-i l = record {
  as_many : length l.totals ≡ length l.fn.totals;
  done : (j : ℕ) → j < l.i → sum_at l.totals j + l.half ≡ sum_at l.numbers j;
}
