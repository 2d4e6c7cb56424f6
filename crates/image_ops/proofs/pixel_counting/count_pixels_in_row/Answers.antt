-- One pixel more, and all pixels.
use Rattle.std.proofs.Common.{◌≡◌, ℕ, ◌+◌, ◌-◌, ◌*◌, ◌/◌, ◌<◌, length, take, drop, sym, ap, ◌∙◌, arith}
use Rattle.std.specs.Cmp.Lexicographic.{pointwise}
use Rattle.image_ops.specs.PixelCounts.{has_value, times_in_row}
use Rattle.image_ops.proofs.PixelCounts.{more, fewer, all_counted}
use Rattle.image_ops.proofs.pixel_counting.count_pixels_in_row.Goals as goal

pub loop-x-preserved : goal.loop-x-preserved
loop-x-preserved g c =
    let eq = g.T.PartialEq.eq in
    let row = c.args.row.now in
    let value = c.args.value.now in
    let x = c.loop-x.x in
    let n : ℕ = length row / length value in
    let same : n ≡ length row / g.row.N = ap (λ k. length row / k) c.requires.size in
    let below : x < n = omega (arith, c.loop-x-test.true, same) in
    let told : has_value eq value row x ≡ c.eq.result =
    (λ i. pointwise eq (take (c.requires.size i) (drop (x * c.requires.size i) row)) value) ∙ ap (λ m. pointwise eq (take m (drop (x * g.row.N) row)) value) (let e : g.row.N ≡ x * g.row.N + g.row.N - x * g.row.N = omega arith in e) ∙ sym c.eq.ensures in
    elim c.if-eq.branch [
      | goal.then-eq w ↦ rw w.count-is (record { number = ap (λ k. k + 1) c.loop-x.invariant.number ∙ sym (more (has_value eq value row) n x below (told ∙ w.if-eq.true)); within = omega (arith, c.loop-x.invariant.within) })
      | goal.else-eq w ↦ rw w.count-is (record { number = c.loop-x.invariant.number ∙ sym (fewer (has_value eq value row) n x below (told ∙ w.if-eq.false)); within = omega (arith, c.loop-x.invariant.within) })
    ]

pub returns-clause-number : goal.returns-clause-number
unfolding times_in_row
returns-clause-number g c =
    let n : ℕ = length c.args.row.now / length c.args.value.now in
    let same : n ≡ length c.args.row.now / g.row.N = ap (λ k. length c.args.row.now / k) c.requires.size in
    c.loop-x.invariant.number ∙ all_counted (has_value g.T.PartialEq.eq c.args.value.now c.args.row.now) n c.loop-x.x (omega (arith, c.loop-x-test.false, c.loop-x.auto.x-end, same))
