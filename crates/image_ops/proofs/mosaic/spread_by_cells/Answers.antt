-- One cell more, of the tile that has begun or of the next.
use Rattle.std.proofs.Common.{◌≡◌, ◌+◌, ◌<◌, length, Some, arith, sym, ap, ◌∙◌}
use Rattle.std.specs.List.{slice_get}
use Rattle.std.proofs.lemmas.Option.{slice_get-get_or}
use Rattle.image_ops.proofs.Spreading.{new_corner, one_cell_more}
use Rattle.image_ops.proofs.mosaic.spread_by_cells.Goals as goal

pub loop-x-preserved : goal.loop-x-preserved
loop-x-preserved g c =
    let some = c.requires.tile_width in
    let old = c.args.row.now in
    let now = c.loop-x.row in
    let x = c.loop-x.x in
    let corner = c.loop-x.corner in
    let so = c.loop-x.invariant.0 in
    let here : x < length old = c.loop-x-test.true in
    elim c.if-x-corner.branch [
      | goal.then-x-corner w ↦
          let ends : x ≡ corner + c.args.tile_width = omega (arith, w.if-x-corner.true, so.from) in
          let shows : slice_get old x ≡ Some w.index-row-x.result = sym (so.others x (omega arith)) ∙ slice_get-get_or now x w.index-row-x.result (omega (arith, here, so.as_many)) ∙ ap Some (sym w.index-row-x.is) in
          rw (w.pixel-is, w.corner-is) (one_cell_more _ some old now x x w.index-row-x.result (new_corner _ some old now corner x ends so) shows (omega arith) here, shows)
      | goal.else-x-corner w ↦
          rw (w.pixel-is, w.corner-is) (one_cell_more _ some old now corner x c.loop-x.pixel so c.loop-x.invariant.1 (omega (arith, w.if-x-corner.false, so.from, so.within)) here, c.loop-x.invariant.1)
    ]
