-- The stretches so far have their means.
use Rattle.std.proofs.Common.{◌≡◌, ◌-◌, length}
use Rattle.image_means.specs.Means.{row_cell}
use Rattle.image_shape.specs.declared.samples.SampleBytes.TheVariants.{One}
use Rattle.image_means.proofs.SumsOfTiles.{PutBefore}
use Rattle.image_means.proofs.tile_sums.put_row.Given as goal

abbrev pub invariant-loop-from : goal.invariant-loop-from
invariant-loop-from g l = record {
  room : length l.sums ≡ length l.fn.sums;
  put : PutBefore (row_cell One g.T.Sample.number g.T.Sample.sample l.tile.size l.tile.width l.lines.count l.lines.stride l.lines.first.start l.lines.first.len l.fn.cells) l.tile.size l.tile.width l.lines.first.start l.lines.first.len l.fn.cells l.cells l.from;
}

abbrev pub decreases-loop-from : goal.decreases-loop-from
decreases-loop-from g l = l.lines.first.len - l.from
