-- The cell that was read is the one that the call takes.
use Rattle.std.proofs.Common.{◌≡◌, refl, arith}
use Rattle.std.proofs.lemmas.Option.{slice_get_read}
use Rattle.image_ops.proofs.PlaceAnswers.{answered_more, all_cells_answered}
use Rattle.image_ops.proofs.map.map_cells.Goals as goal

pub loop-cell-preserved : goal.loop-cell-preserved
loop-cell-preserved g c =
    let k = c.loop-cell.cell-index in
    let so = c.loop-cell.invariant.1 in (
      c.loop-cell.invariant.0,
      answered_more _ _ _ k _ so (omega arith)
          (λ p was.
          let mine : c.cell-item.result ≡ p = cc (slice_get_read c.loop-cell.cells _ k _ refl (omega arith) c.cell-item.is, so.others k (omega arith), was) in
          rw (← mine, c.cell-item.is) c.f.ensures),
    )

pub returns : goal.returns
returns g c = all_cells_answered _ _ _ _ c.loop-cell.invariant.1 (omega arith)
