-- Three spans, one after the other.
use Rattle.std.proofs.Common.{◌≡◌, ◌≤◌, ◌/◌, length, sym, subst, ◌∙◌, arith}
use Rattle.std.proofs.lemmas.Grind.{common_steps}
use Rattle.image_means.specs.Blur.{BlursSpan}
use Rattle.image_means.proofs.Spans.{spans_join}
use Rattle.image_means.proofs.blur.blur_place.Goals.{then-factor-gt0+then-from-end, else-factor-gt0}
use Rattle.image_means.proofs.blur.blur_place.Goals as goal

pub factor_for-factor-requires-clause-known : goal.factor_for-factor-requires-clause-known
factor_for-factor-requires-clause-known g c = λ short. c.requires.factors.each _ (omega arith) (omega arith) short

pub returns : goal.returns
returns g c =
    let place = c.args.place in
    let sums = c.args.sums.now in
    let can = c.requires.can in
    let from = c.min-from.result in
    let end = c.max-end.result in
    let before = c.blur_span.new.row in
    let begun : length c.sums_before.new.totals ≡ g.row.N = omega (arith, c.sums_before.ensures.as_many) in
    let first = subst (λ n. BlursSpan place n sums 0 from c.args.row.now before) begun c.blur_span.ensures.means in
    let still : length c.blur_span.new.totals ≡ g.row.N = c.blur_span.ensures.as_many ∙ begun in
    let inner : BlursSpan place g.row.N sums from end before c.if-factor-gt0.row = elim c.if-factor-gt0.branch [
      | then-factor-gt0+then-from-end w ↦ subst (λ r. BlursSpan place g.row.N sums from end before r) (sym w.row-is) w.blur_whole.ensures.means
      | else-factor-gt0 w ↦ subst (λ r. BlursSpan place g.row.N sums from end before r) (sym w.row-is) (subst (λ n. BlursSpan place n sums from end before w.blur_span-else-factor-gt0.new.row) still w.blur_span-else-factor-gt0.ensures.means)
    ] in
    let left : length c.if-factor-gt0.totals ≡ g.row.N = elim c.if-factor-gt0.branch [
      | then-factor-gt0+then-from-end w ↦ omega (arith, w.totals-is, w.blur_whole.ensures.as_many)
      | else-factor-gt0 w ↦ omega (arith, w.totals-is, w.blur_span-else-factor-gt0.ensures.as_many, still)
    ] in
    let last = subst (λ n. BlursSpan place n sums end (length sums / place.blur.per) c.if-factor-gt0.row c.blur_span-2.new.row) left c.blur_span-2.ensures.means in
    let short : end ≤ length sums / place.blur.per = omega (arith, c.max-end.ensures, c.min-from.ensures, c.saturating_sub.ensures) in
    record { means = spans_join can (omega arith) short (omega arith) (spans_join can (omega arith) (omega (arith, c.max-end.ensures)) short first inner) last }

pub blur_span-requires-2-clause-before : goal.blur_span-requires-2-clause-before
blur_span-requires-2-clause-before g c = grind (arith, common_steps)
