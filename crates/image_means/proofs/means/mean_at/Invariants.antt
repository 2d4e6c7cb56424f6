-- The sum of the lines so far, of which a part may be divided already.
use Rattle.std.proofs.Common.{◌≡◌, ◌+◌, ◌*◌, ◌^◌, ◌<◌, ◌≤◌}
use Rattle.image_model.specs.Tiles.{tile_count}
use Rattle.image_means.specs.Means.{sum_upto, sample_in, sample_number}
use Rattle.image_means.proofs.means.mean_at.Given as goal

abbrev pub invariant-loop-line : goal.invariant-loop-line
invariant-loop-line g l = record {
  value : l.mean * l.count + l.sum ≡ sum_upto l.line (λ j. sum_upto (tile_count l.size l.lines.first.len) (λ i. sample_in l.bytes g.T.Sample.number l.cells (l.lines.first.start + (j * l.lines.stride + i * l.size))));
  small : l.sum < 2 ^ 63;
  bound : l.mean * l.count + l.sum ≤ l.line * (tile_count l.size l.lines.first.len * sample_number l.bytes g.T.Sample.greatest g.T.Sample.greatest);
}
