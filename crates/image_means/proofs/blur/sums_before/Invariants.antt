-- The sums before this one are done.
use Rattle.std.proofs.Common.{◌≡◌, length}
use Rattle.image_means.specs.Blur.{AreSumsBefore}
use Rattle.image_means.proofs.blur.sums_before.Given as goal

abbrev pub invariant-loop-i : goal.invariant-loop-i
invariant-loop-i l = record {
  as_many : length l.totals ≡ length l.fn.totals;
  done : AreSumsBefore l.fn.place l.sums 0 0 l.i l.totals;
}
