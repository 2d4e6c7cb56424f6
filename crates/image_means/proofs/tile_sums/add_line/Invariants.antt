-- The sums before this one are done, and the others are as before.
use Rattle.std.proofs.Common.{◌≡◌, ◌<◌, ◌≤◌, ◌+◌, ℕ, length}
use Rattle.std.specs.List.{slice_get}
use Rattle.image_means.specs.Means.{number_in}
use Rattle.image_means.proofs.tile_sums.add_line.Given as goal

abbrev pub invariant-loop-k : goal.invariant-loop-k
invariant-loop-k g l = record {
  as_many : length l.sums ≡ length l.fn.sums;
  done : (j : ℕ) → j < l.k → number_in g.C.Tally.tally l.sums j ≡ number_in g.C.Tally.tally l.fn.sums j + number_in g.T.Sample.number l.row j;
  within : (j : ℕ) → j < l.k → number_in g.C.Tally.tally l.sums j ≤ number_in g.C.Tally.tally l.fn.sums j + g.T.Sample.greatest;
  left : (j : ℕ) → l.k ≤ j → slice_get l.sums j ≡ slice_get l.fn.sums j;
}
