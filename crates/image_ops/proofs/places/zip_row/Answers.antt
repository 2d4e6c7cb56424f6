-- The cells that were read are the ones that the call takes.
use Rattle.std.proofs.Common.{◌≡◌, refl, arith}
use Rattle.std.proofs.lemmas.Option.{slice_get_read}
use Rattle.image_ops.proofs.PlaceAnswers.{answered_more, all_cells_answered}
use Rattle.image_ops.proofs.places.zip_row.Goals as goal

pub f-requires : goal.f-requires
f-requires g c =
    let k = c.loop-k.k in
    let mine = slice_get_read c.loop-k.cells _ k _ refl (omega arith) c.index-cells-k.is in
    let other = slice_get_read c.args.others.now _ k _ refl (omega arith) c.index-others-k.is in
    c.requires.callable k _ _ (cc (mine, c.loop-k.invariant.others k (omega arith))) other

pub loop-k-preserved : goal.loop-k-preserved
loop-k-preserved g c =
    let k = c.loop-k.k in
    answered_more _ _ _ k _ c.loop-k.invariant (omega arith)
    (λ p was q there.
    let mine : c.index-cells-k.result ≡ p = cc (slice_get_read c.loop-k.cells _ k _ refl (omega arith) c.index-cells-k.is, c.loop-k.invariant.others k (omega arith), was) in
    let other : c.index-others-k.result ≡ q = cc (slice_get_read c.args.others.now _ k _ refl (omega arith) c.index-others-k.is, there) in
    rw (← mine, ← other) c.f.ensures)

pub returns : goal.returns
returns g c = all_cells_answered _ _ _ _ c.loop-k.invariant (omega arith)
