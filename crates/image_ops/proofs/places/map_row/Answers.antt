-- The cell that was read is the one that the call takes.
use Rattle.std.proofs.Common.{◌≡◌, refl, arith}
use Rattle.std.proofs.lemmas.Option.{slice_get_read}
use Rattle.image_ops.proofs.PlaceAnswers.{answered_more, all_cells_answered}
use Rattle.image_ops.proofs.places.map_row.Goals as goal

pub f-requires : goal.f-requires
f-requires g c =
    let x = c.loop-x.x in
    c.requires.callable x _ (cc (slice_get_read c.loop-x.cells _ x _ refl (omega arith) c.index-cells-x.is, c.loop-x.invariant.others x (omega arith)))

pub loop-x-preserved : goal.loop-x-preserved
loop-x-preserved g c =
    let x = c.loop-x.x in
    answered_more _ _ _ x _ c.loop-x.invariant (omega arith)
    (λ p was.
    let mine : c.index-cells-x.result ≡ p = cc (slice_get_read c.loop-x.cells _ x _ refl (omega arith) c.index-cells-x.is, c.loop-x.invariant.others x (omega arith), was) in
    rw (← mine) c.f.ensures)

pub returns : goal.returns
returns g c = all_cells_answered _ _ _ _ c.loop-x.invariant (omega arith)
