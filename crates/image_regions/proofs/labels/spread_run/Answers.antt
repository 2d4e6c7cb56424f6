-- The places above and below a run are looked at.
use Rattle.std.proofs.Common.{◌≡◌, ◌+◌, ◌*◌, ◌/◌, ◌%◌, ◌<◌, ◌⊎◌, inl, inr, get_or, sym, ap, ◌∙◌, subst, arith, ⊎_elim}
use Rattle.std.proofs.lemmas.Bool.Decides.{eqb_tells}
use Rattle.std.proofs.Math.Nat.{div-add-mod, mod-lt, mul_comm}
use Rattle.imgref.specs.Words.{ref_grid, shape_height, shape_width, shaped}
use Rattle.image_regions.specs.declared.labels.Run.{Run}
use Rattle.image_regions.specs.Runs.{label_grid, open_places}
use Rattle.image_regions.proofs.Runs.{connected_on, is_labelled, label_stays, run_done, run_taken}
use Rattle.image_regions.proofs.labels.spread_run.Goals as goal

pub returns-clause-goes_on : goal.returns-clause-goes_on
returns-clause-goes_on g c begun left top f =
    let a = c.args in
    let s = a.search.now in
    let test = λ (p : g.row.T.Denot). g.T.PartialEq.eq p s.seed in
    let pixels = ref_grid s.image in
    let b = shaped begun s.shape in
    let w = shape_width s.shape in
    let wide = c.width-width.result in
    let number = get_or a.room.now a.count 0 in
    let x = number % wide in
    let y = number / wide in
    let end = c.label_end-to.result in
    let run : Run = record { y = y; from = x; to = end } in
    let above = c.saturating_sub-above.result in
    let up : (above ≡ y) ⊎ ((above ≡ y + 1) ⊎ (y ≡ above + 1)) = ⊎_elim (λ s. inl (omega (arith, s.1, c.saturating_sub-above.ensures))) (λ o. inr (inr (omega (arith, o.1, c.saturating_sub-above.ensures)))) (eqb_tells y 0) in
    let first = c.look_along-count in
    let second = c.look_along in
    let l = shaped a.labels.now s.shape in
    let k = shaped first.new.labels s.shape in
    let m = shaped second.new.labels s.shape in
    let some = c.requires.ready.some in
    let along = c.label_end-to.ensures.run.along in
    let within : number < w * shape_height s.shape = c.requires.ready.places a.count (omega arith) in
    let columns : 0 < wide = ⊎_elim (λ none. let no : number < 0 * shape_height s.shape = subst (λ k. number < k * shape_height s.shape) (sym c.width-width.ensures.value ∙ none.1) within in absurd (omega (arith, no))) (λ o. omega (arith, o.1)) (eqb_tells wide 0) in
    let column : x < w = omega (arith, mod-lt number columns, c.width-width.ensures.value) in
    let is : number ≡ y * w + x = sym (div-add-mod number wide) ∙ ap (λ n. n + x) (mul_comm wide y) ∙ ap (λ n. y * n + x) c.width-width.ensures.value in
    let taken = run_taken test pixels left top s.label some b l w a.count a.room.now run column (omega arith) is c.label_end-to.ensures.run.after along c.label_end-to.ensures.run.ends f in
    let one = first.ensures.goes_on begun left top run (λ u p q is. connected_on test pixels left top s.label some b l w a.count a.room.now run taken u y above (along u p q) up is) taken in
    let two = second.ensures.goes_on begun left top run (λ u p q is. connected_on test pixels left top s.label some b k w first.result first.new.room run one u y (y + 1)
    (label_stays s.label some (label_grid s a.labels.now) (label_grid s first.new.labels) first.ensures.step.adds u y (along u p q)) (inr (inl (omega arith))) is) one in
    run_done test pixels left top s.label some b m w second.result second.new.room run
    (λ u z p q step is. ⊎_elim
    (λ down. is_labelled test pixels left top s.label some b m two.each u z is (λ is_open. second.ensures.looked u p q (ap (λ r. (open_places s g.T.PartialEq.eq second.new.labels).pixel u r) (sym down) ∙ is_open)))
    (λ higher.
    let at : above ≡ z = omega (arith, higher, c.saturating_sub-above.ensures) in
    label_stays s.label some (label_grid s first.new.labels) (label_grid s second.new.labels) second.ensures.step.adds u z
    (is_labelled test pixels left top s.label some b k one.each u z is (λ is_open. first.ensures.looked u p q (ap (λ r. (open_places s g.T.PartialEq.eq first.new.labels).pixel u r) at ∙ is_open))))
    step)
    two
