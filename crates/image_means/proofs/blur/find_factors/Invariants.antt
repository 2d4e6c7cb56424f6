-- The factors of fewer columns are found.
use Rattle.std.proofs.Common.{◌≡◌, ◌<◌, ◌≤◌, ◌*◌, ℕ, length, slice_index_or}
use Rattle.image_means.specs.Division.{factor_of}
use Rattle.image_means.proofs.blur.find_factors.Given as goal

abbrev pub invariant-loop-columns : goal.invariant-loop-columns
invariant-loop-columns l = record {
  many : length l.factors ≡ length l.fn.factors;
  found : (c : ℕ) → 0 < c → l.least ≤ c → c < l.columns → slice_index_or l.factors c 0 ≡ factor_of (c * l.lines);
}
