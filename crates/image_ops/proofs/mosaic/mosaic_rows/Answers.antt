-- One row more, by the row of the tile that it is.
use Rattle.std.proofs.Common.{◌≡◌, ◌+◌, ◌<◌, ◌%◌, arith, ap, ◌∙◌}
use Rattle.std.proofs.Math.Nat.{mod-lt, mod-add-mod}
use Rattle.image_model.specs.Rows.{row_count}
use Rattle.image_writes.proofs.RowsWritten.{row_range}
use Rattle.image_ops.proofs.Mosaics.{row_spread, row_repeated, mosaic_becomes}
use Rattle.image_ops.proofs.mosaic.mosaic_rows.Goals as goal

pub next_line-line-requires : goal.next_line-line-requires
next_line-line-requires g c = rw c.loop-y.invariant.line (mod-lt c.loop-y.y c.requires.tile_height)

pub loop-y-preserved : goal.loop-y-preserved
loop-y-preserved g c =
    let old = c.args.cells.now in
    let s = c.args.shape in
    let y = c.loop-y.y in
    let tw = c.args.tile_width in
    let th = c.args.tile_height in
    let row = c.row-row in
    let so = c.loop-y.invariant in
    let below : y < row_count s.width s.height = omega (arith, c.row_count-y-end.ensures.value, c.loop-y-test.true) in
    record {
      shown = elim c.if-line-eq0.branch [
        | goal.then-line-eq0 w ↦
            let first : y % th ≡ 0 = omega (arith, so.line, w.if-line-eq0.true) in
            rw w.cells-is (row_spread old s c.args.size tw th c.loop-y.cells y so.shown c.requires.fits below _ _ (row_range s y w.range.ensures.start w.range.ensures.end row.ensures.start row.ensures.len) w.spread.new.row first w.spread.ensures)
        | goal.else-line-eq0 w ↦
            let later : 0 < y % th = omega (arith, so.line, w.if-line-eq0.false) in
            let above = w.row_above in
            rw (w.cells-is, w.repeat_row.ensures) (row_repeated old s c.args.size tw th c.loop-y.cells y so.shown c.requires.fits below above.result row.result c.requires.tile_height later above.ensures.start (above.ensures.len ∙ row.ensures.len) row.ensures.start)
      ];
      line = c.next_line-line.ensures ∙ ap (λ k. (k + 1) % th) so.line ∙ mod-add-mod y th 1;
    }

pub returns : goal.returns
returns g c =
    mosaic_becomes c.args.cells.now c.args.shape c.args.size c.args.tile_width c.args.tile_height c.loop-y.cells c.loop-y.y c.loop-y.invariant.shown (omega (arith, c.row_count-y-end.ensures.value))
