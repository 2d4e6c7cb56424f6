-- The numbers have 32 bits, and one pixel more is done.
use Rattle.std.proofs.Common.{◌<◌, ◌+◌, ◌/◌, subst, ◌∙◌, arith}
use Rattle.std.proofs.lemmas.Grind.{common_steps}
use Rattle.image_means.specs.Blur.{whole_count, AreSumsBefore, BlursSpan}
use Rattle.image_means.proofs.Spans.{half_fits, half_within, spans_join}
use Rattle.image_means.proofs.blur.blur_whole.Goals as goal

pub add_half-requires-clause-small : goal.add_half-requires-clause-small
add_half-requires-clause-small g c =
    let a = c.args in
    λ i below.
    let inner : i < g.row.N = omega (arith, below, c.requires.as_many) in
    omega (arith, half_fits c.requires.can i inner a.pixels.start a.factor _ c.requires.first (omega (arith, c.requires.order, c.requires.last)) c.requires.factor c.requires.few (c.requires.before.each i inner))

pub loop-p-preserved : goal.loop-p-preserved
loop-p-preserved g c =
    let a = c.args in
    let so = c.loop-p.invariant in
    let p = c.loop-p.p in
    let done = c.blur_whole_pixel.ensures in
    record {
      as_many = done.as_many ∙ so.as_many;
      sums = subst (λ n. AreSumsBefore a.place a.sums.now (p + 1) (whole_count a.place / 2) n c.blur_whole_pixel.new.numbers) so.as_many done.sums;
      means = spans_join c.requires.can c.loop-p.auto.p (omega arith) (omega (arith, c.loop-p-test.true, c.loop-p.auto.p-end, c.requires.last)) so.means (subst (λ n. BlursSpan a.place n a.sums.now p (p + 1) c.loop-p.row c.blur_whole_pixel.new.row) so.as_many done.means);
    }

pub take_half-requires-clause-parts : goal.take_half-requires-clause-parts
take_half-requires-clause-parts g c = λ i below.
    let so = c.loop-p.invariant in
    let inner : i < g.row.N = omega (arith, below, so.as_many) in
    omega (arith, half_within c.requires.can i inner c.loop-p.p _ (omega (arith, c.loop-p-test.false, c.loop-p.auto.p-end, c.requires.last)) (so.sums.each i inner))

pub loop-p-init : goal.loop-p-init
loop-p-init g c = grind (arith, common_steps)

pub returns-clause-sums : goal.returns-clause-sums
returns-clause-sums g c = grind (arith, common_steps)

pub returns-clause-means : goal.returns-clause-means
returns-clause-means g c = grind (arith, common_steps)
