-- The lines of the tile are inside, no number overflows, and what is divided early is added.
use Rattle.std.proofs.Common.{◌≡◌, ℕ, ◌<◌, ◌≤◌, ◌+◌, ◌-◌, ◌*◌, ◌^◌, ◌/◌, ◌%◌, length, refl, sym, ap, ap₂, ◌∙◌, subst, arith}
use Rattle.std.proofs.lemmas.Nat.{mod_below}
use Rattle.std.proofs.lemmas.Grind.{common_steps}
use Rattle.image_model.specs.Tiles.{tile_count}
use Rattle.image_model.proofs.Tiles.{tile_counted}
use Rattle.std.proofs.Math.Nat.{mul_assoc, mul_comm}
use Rattle.image_means.specs.Means.{sum_upto, rounded_mean, sample_cells, sample_in, sample_number}
use Rattle.image_means.proofs.MeanTiles.{line_length, line_sum, line_added, line_divided}
use Rattle.image_means.proofs.Samples.{sample_short}
use Rattle.image_means.proofs.Rounding.{pixels_within, some_pixels, line_within, sum_next, rounded_later, rounded_within, divided}
use Rattle.image_means.proofs.means.mean_at.Given.{Over}
use Rattle.image_means.proofs.means.mean_at.Goals.{then-sum-ge-LARGE, else-sum-ge-LARGE}
use Rattle.image_means.proofs.means.mean_at.Goals as goal

pub overflow_mul-count : goal.overflow_mul-count
overflow_mul-count g c =
    let a = c.args in
    omega (arith, pixels_within a.lines.count c.requires.lines.some c.tiles_along.result a.lines.first.len a.lines.stride (length a.cells.now - a.lines.first.start) c.tiles_along.ensures.few c.requires.lines.apart (omega (arith, c.requires.lines.inside)), c.requires.lines.room)

pub overflow_mul-start : goal.overflow_mul-start
overflow_mul-start g c = omega (arith, line_within c.args.lines.count c.requires.lines.some c.loop-line.line c.args.lines.stride c.loop-line-test.true, c.requires.lines.inside, c.requires.lines.room)

pub overflow_add-start : goal.overflow_add-start
overflow_add-start g c = omega (arith, line_within c.args.lines.count c.requires.lines.some c.loop-line.line c.args.lines.stride c.loop-line-test.true, c.requires.lines.inside, c.requires.lines.room)

pub overflow_add-start-in-loop-line : goal.overflow_add-start-in-loop-line
overflow_add-start-in-loop-line g c = omega (arith, line_within c.args.lines.count c.requires.lines.some c.loop-line.line c.args.lines.stride c.loop-line-test.true, c.requires.lines.inside, c.requires.lines.room)

pub offset_bounds-cells-start : goal.offset_bounds-cells-start
offset_bounds-cells-start g c = omega (arith, line_within c.args.lines.count c.requires.lines.some c.loop-line.line c.args.lines.stride c.loop-line-test.true, c.requires.lines.inside, c.requires.lines.room)

pub slice_bounds-sum_of-end : goal.slice_bounds-sum_of-end
slice_bounds-sum_of-end g c = omega (arith, line_within c.args.lines.count c.requires.lines.some c.loop-line.line c.args.lines.stride c.loop-line-test.true, c.requires.lines.inside, c.requires.lines.room)

pub overflow_add-mean : goal.overflow_add-mean
overflow_add-mean g c =
    let a = c.args in
    let l = c.loop-line in
    let inside : a.lines.first.start + l.line * a.lines.stride + a.lines.first.len ≤ length a.cells.now = omega (arith, line_within a.lines.count c.requires.lines.some l.line a.lines.stride c.loop-line-test.true, c.requires.lines.inside) in
    omega (
      arith,
      line_divided a.cells.now a.size a.lines.first.len (a.lines.first.start + l.line * a.lines.stride) l.line a.lines.count (sample_number a.bytes g.T.Sample.greatest g.T.Sample.greatest) l.mean l.sum c.sum_of-sum.result c.tiles_along.result
          c.requires.samples.some c.requires.some c.requires.lines.some c.loop-line-test.true inside c.tiles_along.ensures.value l.invariant.bound c.sum_of-sum.ensures.bound,
      sample_short a.bytes g.T.Sample.greatest c.requires.samples.kind g.met.T.Sample.short,
    )

pub loop-line-preserved : goal.loop-line-preserved
loop-line-preserved g c =
    let a = c.args in
    let l = c.loop-line in
    let greatest = sample_number a.bytes g.T.Sample.greatest g.T.Sample.greatest in
    let start : ℕ = a.lines.first.start + l.line * a.lines.stride in
    let inside : start + a.lines.first.len ≤ length a.cells.now = omega (arith, line_within a.lines.count c.requires.lines.some l.line a.lines.stride c.loop-line-test.true, c.requires.lines.inside) in
    let columns : ℕ = c.tiles_along.result in
    let count : ℕ = columns * a.lines.count in
    let here : tile_count a.size a.lines.first.len ≡ columns = sym c.tiles_along.ensures.value in
    let some : 0 < count = some_pixels a.lines.count c.requires.lines.some columns (omega (arith, here, tile_counted a.size a.lines.first.len 0 c.requires.samples.some (omega (arith, c.requires.some)))) in
    let all = line_added a.cells.now a.size a.lines.first.len start l.line a.lines.count greatest (l.mean * count + l.sum) c.sum_of-sum.result c.requires.lines.some c.loop-line-test.true inside l.invariant.bound c.sum_of-sum.ensures.bound in
    let sum : ℕ = l.sum + c.sum_of-sum.result in
    let f : ℕ → ℕ = λ j. sum_upto (tile_count a.size a.lines.first.len) (λ i. sample_in a.bytes g.T.Sample.number a.cells.now (a.lines.first.start + (j * a.lines.stride + i * a.size))) in
    let line : c.sum_of-sum.result ≡ f l.line = c.sum_of-sum.ensures.value ∙ line_sum a.bytes g.T.Sample.number a.cells.now a.size a.lines.first.start l.line a.lines.stride start a.lines.first.len c.requires.samples.some c.requires.samples.whole c.requires.whole refl inside in
    let total : l.mean * count + sum ≡ sum_upto (l.line + 1) f = (let e : l.mean * count + sum ≡ l.mean * count + l.sum + c.sum_of-sum.result = omega arith in e) ∙ ap₂ (λ m n. m + n) l.invariant.value line ∙ sym (sum_next l.line f) in
    let part : (l.mean + sum / count) * count + sum % count ≡ l.mean * count + sum = divided sum count some l.mean (l.mean * count + sum) refl in
    let next : l.mean * count + sum ≤ (l.line + 1) * (tile_count a.size a.lines.first.len * greatest) = omega (arith, all.0) in
    let few : count < 2 ^ 63 = omega (arith, pixels_within a.lines.count c.requires.lines.some columns a.lines.first.len a.lines.stride (length a.cells.now - a.lines.first.start) c.tiles_along.ensures.few c.requires.lines.apart (omega (arith, c.requires.lines.inside)), c.requires.lines.room) in
    elim c.if-sum-ge-LARGE.branch [
      | then-sum-ge-LARGE w ↦ rw (w.mean-is, w.sum-is) (record {
        value = part ∙ total;
        small = omega (arith, few, mod_below sum count some);
        bound = omega (arith, part, next);
      })
      | else-sum-ge-LARGE w ↦ rw (w.mean-is, w.sum-is) (record {
        value = total;
        small = omega (arith, w.if-sum-ge-LARGE.false);
        bound = next;
      })
    ]

module _ (g : Over) (c : goal.After-rounded g) where
  abbrev columns : ℕ
  columns = c.tiles_along.result

  -- the sum of all pixels: what is divided early, and the rest
  abbrev total : ℕ
  total = c.loop-line.mean * (columns * c.args.lines.count) + c.loop-line.sum

  here : tile_count c.args.size c.args.lines.first.len ≡ columns
  here = sym c.tiles_along.ensures.value

  all : c.loop-line.line ≡ c.args.lines.count
  all = omega (arith, c.loop-line.auto.line-end, c.loop-line-test.false)

  some : 0 < columns * c.args.lines.count
  some = some_pixels c.args.lines.count c.requires.lines.some columns (omega (arith, here, tile_counted c.args.size c.args.lines.first.len 0 c.requires.samples.some (omega (arith, c.requires.some))))

  is : c.loop-line.mean + c.rounded.result ≡ rounded_mean total (columns * c.args.lines.count)
  is = ap (λ n. c.loop-line.mean + n) c.rounded.ensures ∙ rounded_later c.loop-line.sum (columns * c.args.lines.count) some c.loop-line.mean total refl

  -- the mean is no greater than the greatest number
  within : c.loop-line.mean + c.rounded.result ≤ sample_number c.args.bytes g.T.Sample.greatest g.T.Sample.greatest
  within =
      let lines : ℕ = c.args.lines.count in
      let greatest = sample_number c.args.bytes g.T.Sample.greatest g.T.Sample.greatest in
      let before : total ≤ lines * (columns * greatest) = subst (λ n. total ≤ n * (columns * greatest)) all (subst (λ n. total ≤ c.loop-line.line * (n * greatest)) here c.loop-line.invariant.bound) in
      let most : total ≤ columns * lines * greatest = omega (arith, before, sym (mul_assoc lines columns greatest), ap (λ n. n * greatest) (mul_comm lines columns)) in
      omega (arith, is, rounded_within total (columns * lines) some greatest most)

pub overflow_add-result : goal.overflow_add-result
overflow_add-result g c = omega (arith, within g c, sample_short c.args.bytes g.T.Sample.greatest c.requires.samples.kind g.met.T.Sample.short)

pub overflow_cast-result : goal.overflow_cast-result
overflow_cast-result g c = omega (arith, within g c, sample_short c.args.bytes g.T.Sample.greatest c.requires.samples.kind g.met.T.Sample.short)

pub sum_of-sum-requires-clause-whole : goal.sum_of-sum-requires-clause-whole
sum_of-sum-requires-clause-whole g c =
    let a = c.args in
    let inside : a.lines.first.start + c.loop-line.line * a.lines.stride + a.lines.first.len ≤ length a.cells.now = omega (arith, line_within a.lines.count c.requires.lines.some c.loop-line.line a.lines.stride c.loop-line-test.true, c.requires.lines.inside) in
    ap (λ n. n % sample_cells a.bytes) (line_length a.cells.now (a.lines.first.start + c.loop-line.line * a.lines.stride) a.lines.first.len inside) ∙ c.requires.whole

pub returns-clause-within : goal.returns-clause-within
returns-clause-within g c = within g c

pub returns-clause-value : goal.returns-clause-value
returns-clause-value g c =
    let a = c.args in
    let across = tile_count a.size a.lines.first.len in
    let f : ℕ → ℕ → ℕ = λ i j. sample_in a.bytes g.T.Sample.number a.cells.now (a.lines.first.start + (j * a.lines.stride + i * a.size)) in
    let whole : total g c ≡ sum_upto a.lines.count (λ j. sum_upto across (λ i. f i j)) = c.loop-line.invariant.value ∙ ap (λ n. sum_upto n (λ j. sum_upto across (λ i. f i j))) (all g c) in
    is g c ∙ ap₂ rounded_mean whole (ap (λ n. n * a.lines.count) (sym (here g c)))

pub nonzero_div-mean : goal.nonzero_div-mean
nonzero_div-mean g c = grind (arith, common_steps)

pub nonzero_rem-sum : goal.nonzero_rem-sum
nonzero_rem-sum g c = grind (arith, common_steps)

pub rounded-requires : goal.rounded-requires
rounded-requires g c = grind (arith, common_steps)
