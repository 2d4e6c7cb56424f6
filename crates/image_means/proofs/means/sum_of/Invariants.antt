-- The sum of the pixels so far.
use Rattle.std.proofs.Common.{◌≡◌, ◌*◌, ◌≤◌}
use Rattle.image_means.specs.Means.{sum_upto, sample_in, sample_number}
use Rattle.image_means.proofs.means.sum_of.Given as goal

abbrev pub invariant-loop-pixel : goal.invariant-loop-pixel
invariant-loop-pixel g l = record {
  value : l.sum ≡ sum_upto l.pixel (λ i. sample_in l.bytes g.T.Sample.number l.row (i * l.size));
  bound : l.sum ≤ l.pixel * sample_number l.bytes g.T.Sample.greatest g.T.Sample.greatest;
}
