-- The sum of the columns so far.
use Rattle.std.proofs.Common.{◌≡◌, ◌*◌, ◌≤◌}
use Rattle.image_means.specs.LineSums.{pixels_sum}
use Rattle.image_means.proofs.tile_sums.mean_of_sums.Given as goal

abbrev pub invariant-loop-i : goal.invariant-loop-i
invariant-loop-i g l = record {
  value : l.sum ≡ pixels_sum g.C.Tally.tally l.sums l.size l.i l.x;
  bound : l.sum ≤ l.i * (l.lines * g.T.Sample.greatest);
}
