-- The sum up to this pixel.
use Rattle.std.proofs.Common.{◌≡◌}
use Rattle.image_means.specs.Blur.{pixels_upto}
use Rattle.image_means.proofs.blur.sum_before.Given as goal

abbrev pub invariant-loop-p : goal.invariant-loop-p
invariant-loop-p l = record {
  sum : l.sum ≡ pixels_upto l.sums l.per l.at l.p;
}
