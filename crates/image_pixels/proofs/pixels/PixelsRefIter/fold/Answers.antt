use Rattle.std.proofs.Common.{subst}
use Rattle.std.proofs.iter.runs.Consumers.{fold_runs}
use Rattle.image_pixels.specs.Pixels.{refs_left}
use Rattle.image_pixels.proofs.Folds.{Folded, folded_none, folded_one, folded_all, fold_takes, from_item, from_end, refs_after}
use Rattle.image_pixels.proofs.pixels.PixelsRefIter.fold.Goals as goal

pub loop-row-init : goal.loop-row-init
loop-row-init g c = folded_none (λ x. x.now) refs_left refs_after g.F.FnMut c.args.f c.args.init c.args.self c.requires.callable

pub loop-pixel-init : goal.loop-pixel-init
loop-pixel-init g c = subst (λ xs. Folded (λ x. x.now) refs_left refs_after g.F.FnMut c.args.f c.args.init c.args.self xs c.loop-row.f c.loop-row.acc) c.in-Some.ensures.0 c.loop-row.invariant

pub loop-row-preserved : goal.loop-row-preserved
loop-row-preserved g c =
    subst (λ xs. Folded (λ x. x.now) refs_left refs_after g.F.FnMut c.args.f c.args.init c.args.self xs c.loop-pixel.f c.loop-pixel.acc) (from_end c.in-Some.row.now _ c.loop-pixel.pixel-index c.loop-pixel-test.false) c.loop-pixel.invariant

pub fold_one-acc-requires : goal.fold_one-acc-requires
fold_one-acc-requires g c =
    let next = from_item c.in-Some.row.now _ c.loop-pixel.pixel-index c.pixel-item.result c.loop-pixel-test.true c.pixel-item.is in
    let i = subst (λ xs. Folded (λ x. x.now) refs_left refs_after g.F.FnMut c.args.f c.args.init c.args.self xs c.loop-pixel.f c.loop-pixel.acc) next c.loop-pixel.invariant in
    record { takes = fold_takes (λ x. x.now) refs_left refs_after g.F.FnMut c.args.f c.args.init c.args.self _ _ c.loop-pixel.f c.loop-pixel.acc i }

pub loop-pixel-preserved : goal.loop-pixel-preserved
loop-pixel-preserved g c =
    let next = from_item c.in-Some.row.now _ c.loop-pixel.pixel-index c.pixel-item.result c.loop-pixel-test.true c.pixel-item.is in
    let i = subst (λ xs. Folded (λ x. x.now) refs_left refs_after g.F.FnMut c.args.f c.args.init c.args.self xs c.loop-pixel.f c.loop-pixel.acc) next c.loop-pixel.invariant in
    folded_one (λ x. x.now) refs_left refs_after g.F.FnMut c.args.f c.args.init c.args.self _ _ c.loop-pixel.f c.loop-pixel.acc i _ _ (record { met = c.fold_one-acc.ensures.called.met })

pub returns-clause-ran : goal.returns-clause-ran
returns-clause-ran g c = folded_all (λ x. x.now) refs_left refs_after g.F.FnMut c.args.f c.args.init c.args.self _ c.loop-row.f c.loop-row.acc c.loop-row.invariant c.in_default.ensures.0

pub returns-clause-runs : goal.returns-clause-runs
returns-clause-runs g c = fold_runs _ _ g.F.FnMut _ _ _ (returns-clause-ran g c)
