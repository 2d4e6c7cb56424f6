-- The rows of a tile are inside, and one row more.
use Rattle.std.proofs.Common.{◌≡◌, ℕ, ◌+◌, ◌-◌, ◌*◌, ◌%◌, ◌<◌, ◌≤◌, length, min, subst, ap, ◌∙◌, arith}
use Rattle.std.proofs.Math.Nat.{mod-add-mod}
use Rattle.image_model.specs.Rows.{row_count}
use Rattle.image_model.proofs.Rows.{row_count-le}
use Rattle.image_means.specs.Means.{mean_cell, row_cell, PutsCells}
use Rattle.image_writes.proofs.RowsWritten.{outside_stays}
use Rattle.image_means.proofs.MeanTiles.{IsBegun, lines_inside, row_kept, row_put, rows_put, grid_cell}
use Rattle.image_shape.specs.Shape.{shaped_grid}
use Rattle.image_means.proofs.means.put_means.Goals.{then-line-eq0, else-line-eq0}
use Rattle.image_means.proofs.means.put_means.Goals as goal

pub put_row_means-requires : goal.put_row_means-requires
put_row_means-requires g c =
    let s = c.args.shape in
    let y = c.loop-y.y in
    let below : y < row_count s.width s.height = omega (arith, c.row_count-y-end.ensures.value, c.loop-y-test.true) in
    let high : y < s.height = omega (arith, below, row_count-le s.width s.height) in
    let lines : ℕ = c.min.result in
    let within : lines ≤ s.height - y = omega (arith, c.min.ensures, c.height.ensures.value) in
    let some : 0 < lines = omega (arith, c.min.ensures, c.height.ensures.value, high, c.requires.tiled.high) in
    let reached = lines_inside (length c.args.cells.now) s.width s.height s.stride y lines c.requires.fits below within some in
    record {
      tiled = rw c.row.ensures.len c.requires.tiled;
      lines = record {
        some = some;
        narrow = omega arith;
        apart = omega arith;
        inside = rw (c.row.ensures.start, c.row.ensures.len, c.stride.ensures.value) (omega (arith, reached, c.loop-y.auto.cells));
        room = omega (arith, c.requires.room, c.loop-y.auto.cells);
      };
    }

pub loop-y-preserved : goal.loop-y-preserved
loop-y-preserved g c =
    let a = c.args in
    let s = a.shape in
    let y = c.loop-y.y in
    let so = c.loop-y.invariant in
    let below : y < s.height = omega (arith, c.row_count-y-end.ensures.value, c.loop-y-test.true, row_count-le s.width s.height) in
    record {
      put = elim c.if-line-eq0.branch [
        | then-line-eq0 w ↦
            let count : w.min.result ≡ min a.tile.height (s.height - y) = omega (arith, w.min.ensures, w.height.ensures.value) in
            let what = mean_cell a.bytes g.T.Sample.number g.T.Sample.sample a.tile.size a.tile.width a.tile.height (shaped_grid a.cells.now s) in
            let cell = λ (stride : ℕ). λ (start : ℕ). λ (width : ℕ). row_cell a.bytes g.T.Sample.number g.T.Sample.sample a.tile.size a.tile.width w.min.result stride start width c.loop-y.cells in
            let put : PutsCells (cell s.stride (y * s.stride) s.width) a.tile.size a.tile.width (y * s.stride) s.width c.loop-y.cells w.put_row_means.new.cells =
            subst (λ k. PutsCells (cell s.stride k s.width) a.tile.size a.tile.width k s.width c.loop-y.cells w.put_row_means.new.cells) w.row.ensures.start
            (subst (λ k. PutsCells (cell s.stride w.row.result.start k) a.tile.size a.tile.width w.row.result.start k c.loop-y.cells w.put_row_means.new.cells) w.row.ensures.len
            (subst (λ k. PutsCells (cell k w.row.result.start w.row.result.len) a.tile.size a.tile.width w.row.result.start w.row.result.len c.loop-y.cells w.put_row_means.new.cells) w.stride.ensures.value w.put_row_means.ensures)) in
            rw w.cells-is
            (row_put what a.cells.now s a.tile.size a.tile.width a.tile.height c.loop-y.cells y so.put w.put_row_means.new.cells (cell s.stride (y * s.stride) s.width)
            (λ x column. grid_cell a.bytes g.T.Sample.number g.T.Sample.sample what a.cells.now c.loop-y.cells s a.tile.size a.tile.width a.tile.height y w.min.result x so.put c.requires.tiled.samples.some c.requires.tiled.samples.whole c.requires.tiled.whole count column below) put)
        | else-line-eq0 w ↦ rw w.cells-is (row_kept (mean_cell a.bytes g.T.Sample.number g.T.Sample.sample a.tile.size a.tile.width a.tile.height (shaped_grid a.cells.now s)) a.cells.now s a.tile.size a.tile.width a.tile.height c.loop-y.cells y so.put (omega (arith, so.line, w.if-line-eq0.false)))
      ];
      line = c.next_line-line.ensures ∙ ap (λ k. (k + 1) % a.tile.height) so.line ∙ mod-add-mod y a.tile.height 1;
    }

pub returns-clause-grid : goal.returns-clause-grid
returns-clause-grid g c =
    let a = c.args in
    rows_put (mean_cell a.bytes g.T.Sample.number g.T.Sample.sample a.tile.size a.tile.width a.tile.height (shaped_grid a.cells.now a.shape)) a.cells.now a.shape a.tile.size a.tile.width a.tile.height c.loop-y.cells c.loop-y.y c.loop-y.invariant.put (omega (arith, c.row_count-y-end.ensures.value))

pub returns-clause-outside : goal.returns-clause-outside
returns-clause-outside g c =
    let a = c.args in
    outside_stays (IsBegun (mean_cell a.bytes g.T.Sample.number g.T.Sample.sample a.tile.size a.tile.width a.tile.height (shaped_grid a.cells.now a.shape)) a.cells.now a.shape a.tile.size a.tile.width a.tile.height) a.cells.now c.loop-y.cells a.shape c.loop-y.y c.loop-y.invariant.put (omega (arith, c.row_count-y-end.ensures.value))
