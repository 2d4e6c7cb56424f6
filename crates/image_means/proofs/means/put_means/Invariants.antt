-- The rows so far have their cells, and the line of the next one is known.
use Rattle.std.proofs.Common.{◌≡◌, ◌%◌}
use Rattle.image_writes.proofs.RowsWritten.{RowsDone}
use Rattle.image_means.specs.Means.{mean_cell}
use Rattle.image_means.proofs.MeanTiles.{IsBegun}
use Rattle.image_shape.specs.Shape.{shaped_grid}
use Rattle.image_means.proofs.means.put_means.Given as goal

abbrev pub invariant-loop-y : goal.invariant-loop-y
invariant-loop-y g l = record {
  put : RowsDone (IsBegun (mean_cell l.bytes g.T.Sample.number g.T.Sample.sample l.tile.size l.tile.width l.tile.height (shaped_grid l.initial.cells l.shape)) l.initial.cells l.shape l.tile.size l.tile.width l.tile.height) l.initial.cells l.cells l.shape l.y;
  line : l.line ≡ l.y % l.tile.height;
}
