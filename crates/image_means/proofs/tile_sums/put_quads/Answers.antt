-- A cell of two columns, and one of the last column.
use Rattle.std.proofs.Common.{◌≡◌, ℕ, ◌+◌, ◌-◌, ◌*◌, ◌/◌, ◌<◌, ◌≤◌, min, List, length, ap, arith}
use Rattle.std.proofs.lemmas.Grind.{common_steps}
use Rattle.image_means.specs.LineSums.{pixels_sum}
use Rattle.image_means.specs.Means.{number_in, rounded_mean}
use Rattle.image_means.proofs.Rounding.{sum_next}
use Rattle.image_means.proofs.SumsOfTiles.{column_sum, full_columns, one_mean_more}
use Rattle.image_means.proofs.tile_sums.put_quads.Given.{Over}
use Rattle.image_means.proofs.tile_sums.put_quads.Goals as goal

-- the numbers of one column, and of two
one_pixel : {C : Type 0} (tally : C → ℕ) (sums : List C) (size k : ℕ) → pixels_sum tally sums size 1 k ≡ number_in tally sums k
one_pixel tally sums size k = omega (arith, sum_next 0 (λ i. number_in tally sums (k + i * size)), ap (number_in tally sums) (let e : k + 0 * size ≡ k = omega arith in e))

two_pixels : {C : Type 0} (tally : C → ℕ) (sums : List C) (size k : ℕ) → pixels_sum tally sums size 2 k ≡ number_in tally sums k + number_in tally sums (k + size)
two_pixels tally sums size k = omega (arith, one_pixel tally sums size k, sum_next 1 (λ i. number_in tally sums (k + i * size)), ap (number_in tally sums) (let e : k + 1 * size ≡ k + size = omega arith in e))

pub loop-k-preserved : goal.loop-k-preserved
loop-k-preserved g c =
    let a = c.args in
    let k = c.loop-k.k in
    let tally = g.C.Tally.tally in
    let below : k + a.size < length a.sums.now = omega (arith, c.loop-k-test.true, c.loop-k.auto.k-end, c.saturating_sub-pairs.ensures) in
    let first = column_sum tally a.sums.now k c.index-sums-k.result c.sum.result (omega (arith, below)) c.index-sums-k.is c.sum.ensures in
    let second = column_sum tally a.sums.now (k + a.size) c.index-sums-k-in-loop-k.result c.sum-in-loop-k.result below c.index-sums-k-in-loop-k.is c.sum-in-loop-k.ensures in
    let columns = full_columns a.size 2 c.requires.some (omega arith) (min (2 * a.size) (length a.sums.now - k)) (omega (arith, below)) (omega arith) in
    let mean : (c.sum.result + c.sum-in-loop-k.result + 2) / 4 ≡ rounded_mean (pixels_sum tally a.sums.now a.size 2 k) 4 = omega (arith, first, second, two_pixels tally a.sums.now a.size k) in
    one_mean_more tally g.T.Sample.sample a.size 2 2 a.sums.now a.start k 2 _ a.cells.now c.loop-k.cells c.sample.result columns mean c.sample.ensures (omega (arith, c.requires.inside, below)) c.loop-k.invariant

-- the sums of two columns' lines
pair_sums : (g : Over) (c : goal.After-sum-in-loop-k g) → (c.sum.result ≤ 2 * g.T.Sample.greatest) × (c.sum-in-loop-k.result ≤ 2 * g.T.Sample.greatest)
pair_sums g c =
    let k = c.loop-k.k in
    let sums = c.args.sums.now in
    let tally = g.C.Tally.tally in
    let below : k + c.args.size < length sums = omega (arith, c.loop-k-test.true, c.loop-k.auto.k-end, c.saturating_sub-pairs.ensures) in
    let first = column_sum tally sums k c.index-sums-k.result c.sum.result (omega (arith, below)) c.index-sums-k.is c.sum.ensures in
    let second = column_sum tally sums (k + c.args.size) c.index-sums-k-in-loop-k.result c.sum-in-loop-k.result below c.index-sums-k-in-loop-k.is c.sum-in-loop-k.ensures in
    (omega (arith, first, c.requires.within k (omega (arith, below))), omega (arith, second, c.requires.within (k + c.args.size) below))

pub overflow_add-sum : goal.overflow_add-sum
overflow_add-sum g c = let most = pair_sums g c in omega (arith, most.0, most.1, g.met.T.Sample.short)

pub overflow_add-sum-in-loop-k : goal.overflow_add-sum-in-loop-k
overflow_add-sum-in-loop-k g c = let most = pair_sums g c in omega (arith, most.0, most.1, g.met.T.Sample.short)

pub overflow_cast-sum : goal.overflow_cast-sum
overflow_cast-sum g c = let most = pair_sums g c in omega (arith, most.0, most.1, g.met.T.Sample.short)

pub sample-requires : goal.sample-requires
sample-requires g c = let most = pair_sums g c in omega (arith, most.0, most.1)

-- the sum of the last column's lines
last_sum : (g : Over) (c : goal.After-sum-in-loop-last g) → (number_in g.C.Tally.tally c.args.sums.now c.loop-last.last ≡ c.sum-in-loop-last.result) × (c.sum-in-loop-last.result ≤ 2 * g.T.Sample.greatest)
last_sum g c =
    let below : c.loop-last.last < length c.args.sums.now = omega (arith, c.loop-last-test.true, c.loop-last.auto.last-end) in
    let is = column_sum g.C.Tally.tally c.args.sums.now c.loop-last.last c.index-sums-last.result c.sum-in-loop-last.result below c.index-sums-last.is c.sum-in-loop-last.ensures in
    (is, omega (arith, is, c.requires.within c.loop-last.last below))

pub overflow_add-sum-in-loop-last : goal.overflow_add-sum-in-loop-last
overflow_add-sum-in-loop-last g c = omega (arith, (last_sum g c).1, g.met.T.Sample.short)

pub overflow_cast-sum-in-loop-last : goal.overflow_cast-sum-in-loop-last
overflow_cast-sum-in-loop-last g c = omega (arith, (last_sum g c).1, g.met.T.Sample.short)

pub sample-requires-in-loop-last : goal.sample-requires-in-loop-last
sample-requires-in-loop-last g c = omega (arith, (last_sum g c).1)

pub loop-last-preserved : goal.loop-last-preserved
loop-last-preserved g c =
    let a = c.args in
    let k = c.loop-last.last in
    let below : k < length a.sums.now = omega (arith, c.loop-last-test.true, c.loop-last.auto.last-end) in
    let sum = column_sum g.C.Tally.tally a.sums.now k c.index-sums-last.result c.sum-in-loop-last.result below c.index-sums-last.is c.sum-in-loop-last.ensures in
    let columns = full_columns a.size 1 c.requires.some (omega arith) (min (2 * a.size) (length a.sums.now - k)) (omega (arith, below, c.requires.some)) (omega (arith, c.loop-last.auto.last, c.saturating_sub-pairs.ensures)) in
    let mean : (c.sum-in-loop-last.result + 1) / 2 ≡ rounded_mean (pixels_sum g.C.Tally.tally a.sums.now a.size 1 k) 2 = omega (arith, one_pixel g.C.Tally.tally a.sums.now a.size k, sum) in
    one_mean_more g.C.Tally.tally g.T.Sample.sample a.size 2 2 a.sums.now a.start k 1 _ a.cells.now c.loop-last.cells c.sample-in-loop-last.result columns mean c.sample-in-loop-last.ensures (omega (arith, c.requires.inside, below)) c.loop-last.invariant

pub offset_bounds-cells-start : goal.offset_bounds-cells-start
offset_bounds-cells-start g c = grind (arith, common_steps)
