-- The sums before this one are done, and the others are as before.
use Rattle.std.proofs.Common.{◌≡◌, ◌<◌, ◌≤◌, ◌+◌, ◌*◌, ℕ, length}
use Rattle.std.specs.List.{slice_get}
use Rattle.image_means.specs.Blur.{sum_at}
use Rattle.image_means.specs.Means.{sample_cells, sample_in}
use Rattle.image_means.proofs.blur.take_samples.Given as goal

abbrev pub invariant-loop-k : goal.invariant-loop-k
invariant-loop-k l = record {
  as_many : length l.sums ≡ length l.fn.sums;
  done : (j : ℕ) → j < l.k → sum_at l.fn.sums j ≡ sum_at l.sums j + sample_in l.bytes (λ n. n) l.row (j * sample_cells l.bytes);
  left : (j : ℕ) → l.k ≤ j → slice_get l.sums j ≡ slice_get l.fn.sums j;
}
