use Rattle.std.proofs.Common.{◌≡◌, inr, Some, true, false, sym, ap, ◌∙◌, arith, ⊎_elim}
use Rattle.std.proofs.lemmas.Bool.{cases_lt}
use Rattle.std.proofs.lemmas.Bool.Decides.{eqb_tells}
use Rattle.imgref.specs.Words.{ref_grid, shaped}
use Rattle.image_regions.specs.Runs.{open_places}
use Rattle.image_regions.proofs.Runs.{adds_on, closed_stays, labelled_closed, outside_closed, was_free}
use Rattle.image_regions.proofs.labels.look_along.Goals as goal

pub returns-then-run-height-clause-looked : goal.returns-then-run-height-clause-looked
returns-then-run-height-clause-looked g c u p q =
    let s = c.args.search.now in
    outside_closed (λ p. g.T.PartialEq.eq p s.seed) (ref_grid s.image) (shaped c.args.labels.now s.shape) u c.args.run.y (inr (omega arith))

-- a run got the label
pub loop-x-preserved-then-is_open : goal.loop-x-preserved-then-is_open
loop-x-preserved-then-is_open g c =
    let a = c.args in
    let s = a.search.now in
    let test = λ (p : g.row.T.Denot). g.T.PartialEq.eq p s.seed in
    let pixels = ref_grid s.image in
    let l = shaped c.loop-x.labels s.shape in
    let k = shaped c.label_run-x.new.labels s.shape in
    let i = c.loop-x.invariant in
    let run = c.label_run-x.ensures in (
      adds_on s a.labels.now a.count a.room.now c.loop-x.labels c.loop-x.count c.loop-x.room _ _ _ i.0 run.step,
      λ u p q. ⊎_elim
          (λ low. closed_stays test pixels l k s.label c.requires.ready.some run.step.adds u a.run.y (i.1 u p low))
          (λ high. labelled_closed test pixels k s.label u a.run.y c.requires.ready.some (run.run u high q))
          (cases_lt u c.loop-x.x),
      λ begun left top looked connected f.
          let now = i.2 begun left top looked connected f in
          run.goes_on begun left top looked (connected c.loop-x.x i.3 (omega arith) (was_free test pixels left top s.label c.requires.ready.some (shaped begun s.shape) l now.each c.loop-x.x a.run.y (c.is_open.ensures ∙ ap Some c.if-is_open.true))) now,
      omega (arith, i.3, run.after),
    )

-- a place isn't open
pub loop-x-preserved : goal.loop-x-preserved
loop-x-preserved g c =
    let a = c.args in
    let i = c.loop-x.invariant in (
      i.0,
      λ u p q. ⊎_elim
          (λ at. λ is. let both : Some false ≡ Some true = sym (c.is_open.ensures ∙ ap Some c.if-is_open.false) ∙ ap (λ z. (open_places a.search.now g.T.PartialEq.eq c.loop-x.labels).pixel z a.run.y) (sym at.1) ∙ is in absurd (cc both))
          (λ other. i.1 u p (omega (arith, q, other.1)))
          (eqb_tells u c.loop-x.x),
      i.2,
      omega (arith, i.3),
    )

pub returns-clause-looked : goal.returns-clause-looked
returns-clause-looked g c u p q = c.loop-x.invariant.1 u p (omega (arith, q))
