-- The cells of the tiles before this column, where its tile begins, and the mean of which it may be the second cell.
use Rattle.std.proofs.Common.{◌≡◌, ◌+◌, ◌%◌, ◌<◌, ◌≤◌}
use Rattle.image_means.specs.Means.{sample_cells, sample_number, sample_start, row_cell, row_mean}
use Rattle.image_means.proofs.MeanTiles.{PutUpto}
use Rattle.image_means.proofs.means.put_row_cells.Given as goal

abbrev pub invariant-loop-x : goal.invariant-loop-x
invariant-loop-x g l = record {
  put : PutUpto (row_cell l.bytes g.T.Sample.number g.T.Sample.sample l.tile.size l.tile.width l.lines.count l.lines.stride l.lines.first.start l.lines.first.len l.fn.cells) l.tile.size l.tile.width l.lines.first.start l.fn.cells l.cells l.corner l.x;
  mean : 0 < l.x % sample_cells l.bytes → l.x ≤ l.corner + l.tile.size → l.mean ≡ row_mean l.bytes g.T.Sample.number l.tile.size l.tile.width l.lines.count l.lines.stride l.lines.first.start l.lines.first.len l.fn.cells (sample_start l.bytes l.x);
  within : l.mean ≤ sample_number l.bytes g.T.Sample.greatest g.T.Sample.greatest;
}
