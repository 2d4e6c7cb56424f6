-- A pixel comes in, and one goes out.
use borrow.Author.Rules.{rules, scaled_fits≤}
use Rattle.std.proofs.Common.{◌≡◌, ℕ, ◌+◌, ◌-◌, ◌*◌, ◌/◌, ◌^◌, min, length, ap, arith, inl, inr}
use Rattle.image_means.specs.Blur.{pixels_upto}
use Rattle.image_means.proofs.BoxSums.{between_bound, comes_in, goes_out, upto_grows}
use Rattle.image_means.proofs.blur.next_box.Goals.{Then-across-p, then-p-across, else-p-across}
use Rattle.image_means.proofs.blur.next_box.Goals as goal

pub overflow_add-sum : goal.overflow_add-sum
overflow_add-sum c =
    let a = c.args in
    let end : ℕ = min (length a.sums.now / a.per) (a.p + a.across) in
    let bound = between_bound a.sums.now a.per a.at (2 ^ 32 - 1) c.requires.place c.requires.whole (λ k here. omega (arith, c.type_inv.sums k)) (a.p - (a.across + 1)) end (omega (arith, c.requires.pixel)) (omega arith) in
    omega (arith, c.requires.before, bound, c.requires.across, c.from-sum.ensures, c.type_inv.sums ((a.p + a.across) * a.per + a.at))

-- the sum after the pixel that comes in, where one goes out
sum_in : (c : Then-across-p) → c.if-p-across.sum + pixels_upto c.args.sums.now c.args.per c.args.at (c.args.p - (c.args.across + 1)) ≡ 0 + pixels_upto c.args.sums.now c.args.per c.args.at (min (length c.args.sums.now / c.args.per) (c.args.p + c.args.across + 1))
sum_in c =
    let a = c.args in
    comes_in a.sums.now a.per a.at a.across a.p 0 a.before c.if-p-across.sum (omega (arith, c.requires.before)) (elim c.if-p-across.branch [
      | then-p-across w ↦ inl (omega (arith, w.if-p-across.true), omega (arith, w.sum-is, w.from-sum.ensures))
      | else-p-across w ↦ inr (omega (arith, w.if-p-across.false), w.sum-is)
    ])

pub overflow_sub-sum : goal.overflow_sub-sum
overflow_sub-sum c =
    let a = c.args in
    let pixels : ℕ = length a.sums.now / a.per in
    let order = upto_grows a.sums.now a.per a.at (2 ^ 32 - 1) c.requires.place c.requires.whole (λ k here. omega (arith, c.type_inv.sums k)) (a.p - a.across) (min pixels (a.p + a.across + 1)) (omega (arith, c.requires.pixel)) in
    omega (arith, sum_in (goal.at.overflow_sub-sum c).Then-across-p, order, goes_out a.sums.now a.per a.at a.across a.p c.if-across-p.true, c.from-sum-then-across-p.ensures)

pub returns-then-across-p : goal.returns-then-across-p
returns-then-across-p c =
    let a = c.args in
    omega (arith, sum_in (goal.at.returns-then-across-p c).Then-across-p, overflow_sub-sum c, goes_out a.sums.now a.per a.at a.across a.p c.if-across-p.true, c.from-sum-then-across-p.ensures)

pub returns-else-across-p : goal.returns-else-across-p
returns-else-across-p c =
    let a = c.args in
    let sum = comes_in a.sums.now a.per a.at a.across a.p 0 a.before c.if-p-across.sum (omega (arith, c.requires.before)) (elim c.if-p-across.branch [
      | then-p-across w ↦ inl (omega (arith, w.if-p-across.true), omega (arith, w.sum-is, w.from-sum.ensures))
      | else-p-across w ↦ inr (omega (arith, w.if-p-across.false), w.sum-is)
    ]) in
    omega (arith, sum, ap (λ n. pixels_upto a.sums.now a.per a.at n) (let e : a.p - (a.across + 1) ≡ a.p - a.across = omega (arith, c.if-across-p.false) in e))

pub offset_bounds-sums-p : goal.offset_bounds-sums-p
offset_bounds-sums-p c = search (rules, scaled_fits≤) depth 2 fits 100
