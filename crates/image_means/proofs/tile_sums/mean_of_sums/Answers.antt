-- The mean of numbers up to the greatest one is no greater.
use Rattle.std.proofs.Common.{◌≡◌, ℕ, ◌+◌, ◌*◌, ◌^◌, ◌<◌, ◌≤◌, subst, arith}
use Rattle.std.proofs.lemmas.Nat.{mul-le}
use Rattle.std.proofs.Math.Nat.{add-mul, mul_assoc}
use Rattle.image_means.specs.Means.{number_in}
use Rattle.image_means.proofs.SumsOfTiles.{column_sum}
use Rattle.image_means.proofs.Rounding.{some_pixels, rounded_within, sum_next}
use Rattle.image_means.proofs.tile_sums.mean_of_sums.Goals as goal

pub overflow_add-sum : goal.overflow_add-sum
overflow_add-sum g c =
    let a = c.args in
    let r = c.requires in
    let i = c.loop-i.i in
    let greatest : ℕ = g.T.Sample.greatest in
    let below = r.there i (omega (arith, c.loop-i-test.true, c.loop-i.auto.i-end)) in
    let here : c.sum-sum.result ≤ a.lines * greatest = omega (arith, column_sum g.C.Tally.tally a.sums.now (a.x + i * a.size) c.index-sums-x.result c.sum-sum.result below c.index-sums-x.is c.sum-sum.ensures, r.within (a.x + i * a.size) below) in
    let most : a.lines * greatest ≤ 2 ^ 16 * 2 ^ 16 = mul-le a.lines greatest (2 ^ 16) (2 ^ 16) (omega (arith, r.few_lines)) (omega (arith, g.met.T.Sample.short)) in
    let all : i * (a.lines * greatest) ≤ 512 * (2 ^ 16 * 2 ^ 16) = mul-le i (a.lines * greatest) 512 (2 ^ 16 * 2 ^ 16) (omega (arith, c.loop-i-test.true, c.loop-i.auto.i-end, r.few)) most in
    omega (arith, here, most, all, c.loop-i.invariant.bound)

pub loop-i-preserved : goal.loop-i-preserved
loop-i-preserved g c =
    let a = c.args in
    let r = c.requires in
    let i = c.loop-i.i in
    let tally = g.C.Tally.tally in
    let below = r.there i (omega (arith, c.loop-i-test.true, c.loop-i.auto.i-end)) in
    let here = column_sum tally a.sums.now (a.x + i * a.size) c.index-sums-x.result c.sum-sum.result below c.index-sums-x.is c.sum-sum.ensures in
    record {
      value = omega (arith, here, c.loop-i.invariant.value, sum_next i (λ n. number_in tally a.sums.now (a.x + n * a.size)));
      bound = omega (arith, here, r.within (a.x + i * a.size) below, c.loop-i.invariant.bound, add-mul i 1 (a.lines * g.T.Sample.greatest));
    }

-- the numbers in all columns
sum_within : (columns lines greatest sum i : ℕ) → i ≡ columns → sum ≤ i * (lines * greatest) → sum ≤ columns * lines * greatest
sum_within columns lines greatest sum i all bound = omega (arith, subst (λ n. sum ≤ n * (lines * greatest)) all bound, mul_assoc columns lines greatest)

pub mean_by-requires-clause-samples : goal.mean_by-requires-clause-samples
mean_by-requires-clause-samples g c =
    let a = c.args in
    let greatest : ℕ = g.T.Sample.greatest in
    let all : c.loop-i.i ≡ a.columns = omega (arith, c.loop-i-test.false, c.loop-i.auto.i-end) in
    let most : a.columns * a.lines * greatest ≤ a.columns * a.lines * 65535 = mul-le (a.columns * a.lines) greatest (a.columns * a.lines) 65535 (omega arith) (omega (arith, g.met.T.Sample.short)) in
    omega (arith, sum_within a.columns a.lines greatest c.loop-i.sum c.loop-i.i all c.loop-i.invariant.bound, most)

pub returns-clause-within : goal.returns-clause-within
returns-clause-within g c =
    let a = c.args in
    let greatest : ℕ = g.T.Sample.greatest in
    let all : c.loop-i.i ≡ a.columns = omega (arith, c.loop-i-test.false, c.loop-i.auto.i-end) in
    let some : 0 < a.columns * a.lines = some_pixels a.lines c.requires.lines a.columns c.requires.some in
    omega (arith, c.mean_by.ensures, rounded_within c.loop-i.sum (a.columns * a.lines) some greatest (sum_within a.columns a.lines greatest c.loop-i.sum c.loop-i.i all c.loop-i.invariant.bound))

pub overflow_cast-result : goal.overflow_cast-result
overflow_cast-result g c = omega (arith, returns-clause-within g c, g.met.T.Sample.short)
