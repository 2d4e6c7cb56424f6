-- The number of the next box fits, its quotient is the mean, and one sample more is put.
use Rattle.std.proofs.Common.{◌<◌, ◌+◌, ◌-◌, ◌*◌, ◌/◌, ◌^◌, ap, ◌∙◌, length, ℕ, arith}
use Rattle.std.proofs.Math.Nat.{div-mul-le_self}
use Rattle.std.proofs.lemmas.Nat.{mul-le}
use Rattle.std.proofs.lemmas.List.{get_or-set_other, length-set}
use Rattle.std.proofs.lemmas.Grind.{common_steps}
use Rattle.image_means.specs.Blur.{sum_at}
use Rattle.image_means.proofs.Spans.{sample_end, span_widens, sums_widen, whole_box}
use Rattle.image_means.proofs.blur.blur_whole_pixel.Goals as goal

pub overflow_sub-number : goal.overflow_sub-number
overflow_sub-number c = (whole_box c.requires.can c.loop-i.i (omega (arith, c.loop-i-test.true, c.loop-i.auto.i-end)) c.requires.first c.requires.last c.requires.factor c.requires.few (c.loop-i.invariant.left c.loop-i.i (omega arith) (omega (arith, c.loop-i-test.true, c.loop-i.auto.i-end)))).loses

pub overflow_add-number : goal.overflow_add-number
overflow_add-number c = omega (arith, (whole_box c.requires.can c.loop-i.i (omega (arith, c.loop-i-test.true, c.loop-i.auto.i-end)) c.requires.first c.requires.last c.requires.factor c.requires.few (c.loop-i.invariant.left c.loop-i.i (omega arith) (omega (arith, c.loop-i-test.true, c.loop-i.auto.i-end)))).fits)

pub quotient_by-mean-requires : goal.quotient_by-mean-requires
quotient_by-mean-requires c = omega (arith, (whole_box c.requires.can c.loop-i.i (omega (arith, c.loop-i-test.true, c.loop-i.auto.i-end)) c.requires.first c.requires.last c.requires.factor c.requires.few (c.loop-i.invariant.left c.loop-i.i (omega arith) (omega (arith, c.loop-i-test.true, c.loop-i.auto.i-end)))).product, ap (λ n. n * c.args.factor) c.from.ensures)

pub put_sample-requires-clause-inside : goal.put_sample-requires-clause-inside
put_sample-requires-clause-inside c = omega (arith, sample_end c.requires.can c.loop-i.i (omega (arith, c.loop-i-test.true, c.loop-i.auto.i-end)) (let here : c.args.p < length c.args.sums.now / c.args.place.blur.per = omega (arith, c.requires.last) in here), c.loop-i.invariant.means.as_many)

pub put_sample-requires-clause-value : goal.put_sample-requires-clause-value
put_sample-requires-clause-value c = omega (arith, c.quotient_by-mean.ensures, ap (λ n. n * c.args.factor / 2 ^ 47) c.from.ensures, (whole_box c.requires.can c.loop-i.i (omega (arith, c.loop-i-test.true, c.loop-i.auto.i-end)) c.requires.first c.requires.last c.requires.factor c.requires.few (c.loop-i.invariant.left c.loop-i.i (omega arith) (omega (arith, c.loop-i-test.true, c.loop-i.auto.i-end)))).value)

pub loop-i-preserved : goal.loop-i-preserved
loop-i-preserved c =
    let a = c.args in
    let i = c.loop-i.i in
    let so = c.loop-i.invariant in
    let inner : c.loop-i.i < length c.args.numbers.now = omega (arith, c.loop-i-test.true, c.loop-i.auto.i-end) in
    let box = whole_box c.requires.can c.loop-i.i inner c.requires.first c.requires.last c.requires.factor c.requires.few (c.loop-i.invariant.left c.loop-i.i (omega arith) inner) in
    let number = sum_at c.loop-i.numbers i - sum_at a.sums.now ((a.p - a.place.blur.across - 1) * a.place.blur.per + (a.place.at + i)) + sum_at a.sums.now ((a.p + a.place.blur.across) * a.place.blur.per + (a.place.at + i)) in
    record {
      as_many = length-set c.loop-i.numbers i number ∙ so.as_many;
      done = sums_widen number (omega (arith, inner, so.as_many)) so.done box.next;
      left = λ j after below. omega (arith, get_or-set_other c.loop-i.numbers i j number 0 (λ same. absurd (omega (arith, same, after))), so.left j (omega (arith, after)) below);
      means = span_widens c.requires.can i inner (c.quotient_by-mean.ensures ∙ ap (λ n. n * a.factor / 2 ^ 47) c.from.ensures ∙ box.mean) so.means c.put_sample.ensures;
    }

pub loop-i-init : goal.loop-i-init
loop-i-init c = grind (arith, common_steps)

pub overflow_mul-gained : goal.overflow_mul-gained
overflow_mul-gained c = grind (arith, common_steps)

pub overflow_add-gained-in-loop-i : goal.overflow_add-gained-in-loop-i
overflow_add-gained-in-loop-i c = grind (arith, common_steps)

pub offset_bounds-sums-p-in-loop-i : goal.offset_bounds-sums-p-in-loop-i
offset_bounds-sums-p-in-loop-i c = grind (arith, common_steps)

pub overflow_add-p : goal.overflow_add-p
overflow_add-p c = grind (arith, common_steps)

pub returns-clause-means : goal.returns-clause-means
returns-clause-means c = grind (arith, common_steps)

pub bounds-sums-p-in-loop-i : goal.bounds-sums-p-in-loop-i
bounds-sums-p-in-loop-i c =
    let blur = c.args.place.blur in
    let count : ℕ = length c.args.sums.now / blur.per in
    omega (arith, mul-le (c.args.p + blur.across + 1) blur.per count blur.per (omega (arith, c.requires.last)) (omega arith), div-mul-le_self (length c.args.sums.now) blur.per, c.requires.can.places, c.loop-i-test.true, c.loop-i.auto.i-end)
