-- The target window has the old pixels of the source window.
use Rattle.std.proofs.Common.{sym}
use Rattle.image_model.specs.Layout.{Layout}
use Rattle.image_model.specs.Shifts.{MovesRows}
use Rattle.image_shape.specs.Shape.{shaped}
use Rattle.image_shape.specs.Window.{as_window, as_stretch}
use Rattle.row_mover.proofs.MovedWindows.{patched, kept}
use Rattle.row_mover.proofs.windows.with_moved_window.Goals as goal

pub returns-clause-moved : goal.returns-clause-moved
returns-clause-moved g c =
    let a = c.args in
    let r = c.requires in
    let l : Layout g.row.T.Denot = shaped a.cells.now a.shape in
    let new = c.into_cells.result.now in
    let source = as_window a.source in
    let target = as_window a.target in
    let from = c.stretch-from in
    let to = c.stretch-to in
    let moves : MovesRows l.cells new l.stride from.result.start to.result.start a.target.width a.target.height = rw (c.into_cells.ensures.cells, sym c.new-mover.ensures.cells, sym c.stride.ensures.value) c.move_rows.ensures.cells in
    record {
      grid = patched l source target new (as_stretch from.result) (as_stretch to.result) r.fits r.source_inside r.target_inside r.same_width r.same_height from.ensures.value to.ensures.value moves from.ensures.holds_width;
      outside = kept l source target new (as_stretch from.result) (as_stretch to.result) r.fits r.source_inside r.target_inside r.same_width r.same_height from.ensures.value to.ensures.value moves;
    }
