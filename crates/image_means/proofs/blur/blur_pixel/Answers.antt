-- A mean is one of samples, and one sample more at this place.
use Rattle.std.proofs.Common.{◌<◌, ◌+◌, ◌∙◌, length, arith}
use Rattle.std.proofs.lemmas.List.{get_or-set_other, length-set}
use Rattle.image_means.proofs.Spans.{box, next_before, sample_end, span_widens, sums_widen}
use Rattle.image_means.proofs.blur.blur_pixel.Goals as goal

pub factor_for-factor-requires-clause-known : goal.factor_for-factor-requires-clause-known
factor_for-factor-requires-clause-known c = λ short. c.requires.factors.each _ (omega (arith, c.min.ensures, c.saturating_sub.ensures, c.requires.pixel)) (omega (arith, c.min.ensures, c.saturating_sub.ensures, c.requires.pixel)) short

pub mean_by-mean-requires-clause-samples : goal.mean_by-mean-requires-clause-samples
mean_by-mean-requires-clause-samples c = (box c.requires.can c.loop-i.i (omega (arith, c.loop-i-test.true, c.loop-i.auto.i-end)) c.min.result c.saturating_sub.result c.requires.pixel c.next_box-sum.ensures (omega (arith, c.min.ensures)) (omega (arith, c.saturating_sub.ensures))).samples

pub put_sample-requires-clause-inside : goal.put_sample-requires-clause-inside
put_sample-requires-clause-inside c = omega (arith, sample_end c.requires.can c.loop-i.i (omega (arith, c.loop-i-test.true, c.loop-i.auto.i-end)) c.requires.pixel, c.loop-i.invariant.means.as_many)

pub put_sample-requires-clause-value : goal.put_sample-requires-clause-value
put_sample-requires-clause-value c =
    let found = box c.requires.can c.loop-i.i (omega (arith, c.loop-i-test.true, c.loop-i.auto.i-end)) c.min.result c.saturating_sub.result c.requires.pixel c.next_box-sum.ensures (omega (arith, c.min.ensures)) (omega (arith, c.saturating_sub.ensures)) in
    omega (arith, c.mean_by-mean.ensures, found.value)

pub loop-i-preserved : goal.loop-i-preserved
loop-i-preserved c =
    let a = c.args in
    let i = c.loop-i.i in
    let k = a.place.at + i in
    let so = c.loop-i.invariant in
    let inner : i < length a.totals.now = omega (arith, c.loop-i-test.true, c.loop-i.auto.i-end) in
    let found = box c.requires.can i inner c.min.result c.saturating_sub.result c.requires.pixel c.next_box-sum.ensures (omega (arith, c.min.ensures)) (omega (arith, c.saturating_sub.ensures)) in
    record {
      as_many = length-set c.loop-i.totals i c.next_box-sum.result ∙ so.as_many;
      done = sums_widen c.next_box-sum.result (omega (arith, inner, so.as_many)) so.done (next_before a.place.blur.bytes a.sums.now a.place.blur.per k a.place.blur.across a.place.lines a.p 0 c.next_box-sum.result (omega (arith, c.next_box-sum.ensures)));
      left = λ j after. get_or-set_other c.loop-i.totals i j c.next_box-sum.result 0 (λ same. absurd (omega (arith, same, after))) ∙ so.left j (omega (arith, after));
      means = span_widens c.requires.can i inner (c.mean_by-mean.ensures ∙ found.mean) so.means c.put_sample.ensures;
    }
