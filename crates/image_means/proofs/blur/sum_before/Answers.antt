-- One pixel more.
use Rattle.std.proofs.Common.{ℕ, ◌+◌, ◌-◌, ◌*◌, ◌^◌, arith}
use Rattle.image_means.specs.Blur.{sum_at}
use Rattle.image_means.proofs.ColumnSums.{sum_bound}
use Rattle.image_means.proofs.blur.sum_before.Goals as goal

pub overflow_add-sum : goal.overflow_add-sum
overflow_add-sum c =
    let a = c.args in
    let p = c.loop-p.p in
    let greatest : ℕ = 2 ^ 32 - 1 in
    omega (arith, c.loop-p.invariant.sum, sum_bound (λ q. sum_at a.sums.now (q * a.per + a.at)) greatest p (λ q. omega (arith, c.type_inv.sums (q * a.per + a.at))), c.from-sum.ensures, c.type_inv.sums (p * a.per + a.at), c.requires.few, c.loop-p-test.true)
