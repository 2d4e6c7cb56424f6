-- The sums are those of the box's rows, and one row more is a row of means.
use Rattle.std.proofs.Common.{◌≡◌, ℕ, ◌+◌, ◌-◌, ◌*◌, ◌/◌, ◌<◌, ◌≤◌, ◌^◌, Some, length, take, drop, length-take, length-drop, ap, subst, sym, ◌∙◌, arith}
use Rattle.std.proofs.lemmas.Nat.{mul-le}
use Rattle.std.proofs.lemmas.Grind.{common_steps}
use Rattle.image_model.specs.Grid.{grid_of}
use Rattle.image_model.specs.Rows.{row_count}
use Rattle.image_model.proofs.Rows.{row_count-wide, some_column}
use Rattle.image_shape.specs.Shape.{shaped_grid}
use Rattle.image_means.specs.Blur.{AreFactors, BlursRow, column_upto, least_columns, sum_at, box_mean, box_first, box_end}
use Rattle.image_means.specs.Means.{sample_number, sample_cells, sample_start, cell_number}
use Rattle.image_means.proofs.Samples.{sample_short, of_bytes}
use Rattle.image_means.proofs.ColumnSums.{column_between, column_grows}
use Rattle.image_means.proofs.BoxMeans.{row_is}
use Rattle.image_writes.proofs.RowsWritten.{row_range, row_written, outside_stays, shows_table}
use Rattle.image_means.proofs.blur.blur_from.Goals as goal

pub add_rows-requires-clause-bounds : goal.add_rows-requires-clause-bounds
add_rows-requires-clause-bounds c =
    let a = c.args in
    let so = c.loop-y.invariant in
    let greatest : ℕ = sample_number a.blur.bytes 255 255 in
    λ k n here from upto.
    let few : n - c.loop-y.first ≤ 2 ^ 16 = omega (arith, upto, c.min-next_end.ensures, so.begins, c.requires.image.down) in
    let most : (n - c.loop-y.first) * greatest ≤ 2 ^ 16 * 65535 = mul-le (n - c.loop-y.first) greatest (2 ^ 16) 65535 few (omega (arith, sample_short a.blur.bytes 255 (of_bytes a.blur.bytes) (omega arith))) in
    omega (arith, so.columns k here, most, column_between a.blur.bytes a.source.now a.shape.stride k c.loop-y.first n (λ i. omega (arith, c.type_inv.source i)) (omega (arith, so.order, from)))

pub take_rows-requires-clause-parts : goal.take_rows-requires-clause-parts
take_rows-requires-clause-parts c =
    let a = c.args in
    let so = c.loop-y.invariant in
    λ k here.
    let before : k < length c.loop-y.sums = omega (arith, here, c.add_rows.ensures.as_many) in
    omega (arith, so.columns k before, c.add_rows.ensures.each k before, column_grows a.blur.bytes a.source.now a.shape.stride k c.saturating_sub-next_first.result c.min-next_end.result (omega (arith, c.saturating_sub-next_first.ensures, c.min-next_end.ensures, c.loop-y-test.true, c.loop-y.auto.y-end)))

pub blur_row-requires-clause-sums : goal.blur_row-requires-clause-sums
blur_row-requires-clause-sums c =
    let a = c.args in
    let so = c.loop-y.invariant in
    let many : length c.take_rows.new.sums ≡ length a.sums.now = omega (arith, c.take_rows.ensures.as_many, c.add_rows.ensures.as_many, so.as_many) in
    let start : ℕ = c.range-row.result.start in
    let end : ℕ = c.range-row.result.end in
    let row : length (take (end - start) (drop start c.loop-y.cells)) ≡ length c.take_rows.new.sums * sample_cells a.blur.bytes =
    omega (arith, length-take (end - start) (drop start c.loop-y.cells), length-drop start c.loop-y.cells, c.range-row.ensures.start, c.range-row.ensures.end, c.row.ensures.len, c.row.ensures.start, c.row.ensures.inside, c.loop-y.auto.cells, c.requires.image.row, ap (λ n. n * sample_cells a.blur.bytes) many) in
    record {
      whole = subst (λ n. n ≡ n / a.blur.per * a.blur.per) (sym many) c.requires.image.whole;
      row = row;
      room = omega (arith, row, c.requires.image.row, ap (λ n. n * sample_cells a.blur.bytes) many);
      some = omega arith;
      few = omega arith;
      bounds = λ k here.
          let added : k < length c.add_rows.new.sums = omega (arith, here, c.take_rows.ensures.as_many) in
          let before : k < length c.loop-y.sums = omega (arith, added, c.add_rows.ensures.as_many) in
          omega (
            arith,
            so.columns k before,
            c.add_rows.ensures.each k before,
            c.take_rows.ensures.each k here,
            column_between a.blur.bytes a.source.now a.shape.stride k c.saturating_sub-next_first.result c.min-next_end.result (λ i. omega (arith, c.type_inv.source i)) (omega (arith, c.saturating_sub-next_first.ensures, c.min-next_end.ensures, c.loop-y-test.true, c.loop-y.auto.y-end)),
          );
    }

pub blur_row-requires-clause-factors : goal.blur_row-requires-clause-factors
blur_row-requires-clause-factors c =
    let a = c.args in
    let many : length c.take_rows.new.sums ≡ length a.sums.now = omega (arith, c.take_rows.ensures.as_many, c.add_rows.ensures.as_many, c.loop-y.invariant.as_many) in
    subst (λ n. AreFactors c.find_factors.new.factors n (c.min-next_end.result - c.saturating_sub-next_first.result)) (c.min-least.ensures ∙ ap (λ n. least_columns (n / a.blur.per) a.blur.across) (sym many)) c.find_factors.ensures.found

pub loop-y-preserved : goal.loop-y-preserved
loop-y-preserved c =
    let a = c.args in
    let s = a.shape in
    let so = c.loop-y.invariant in
    let y = c.loop-y.y in
    let first = c.saturating_sub-next_first.result in
    let end = c.min-next_end.result in
    let sums = c.take_rows.new.sums in
    let below : y < row_count s.width s.height = omega (arith, c.row_count-rows.ensures.value, c.loop-y-test.true, c.loop-y.auto.y-end) in
    let high : row_count s.width s.height ≡ s.height = row_count-wide s.width s.height (some_column s.width s.height y below) in
    let first_is : first ≡ box_first a.blur.down y = omega (arith, c.saturating_sub-next_first.ensures) in
    let end_is : end ≡ box_end a.blur.down s.height y = omega (arith, c.min-next_end.ensures, c.row_count-rows.ensures.value, high) in
    let taken : length c.add_rows.new.sums ≡ length sums = c.take_rows.ensures.as_many in
    let many : length sums ≡ length a.sums.now = omega (arith, taken, c.add_rows.ensures.as_many, so.as_many) in
    let now : (k : ℕ) → k < length sums → sum_at sums k + column_upto a.blur.bytes a.source.now s.stride k first ≡ column_upto a.blur.bytes a.source.now s.stride k end = λ k here.
    let added : k < length c.add_rows.new.sums = omega (arith, here, taken) in
    let before : k < length c.loop-y.sums = omega (arith, added, c.add_rows.ensures.as_many) in
    omega (arith, so.columns k before, c.add_rows.ensures.each k before, c.take_rows.ensures.each k here) in
    let columns : (k : ℕ) → k < length sums → sum_at sums k + column_upto a.blur.bytes a.source.now s.stride k (box_first a.blur.down y) ≡ column_upto a.blur.bytes a.source.now s.stride k (box_end a.blur.down s.height y) = λ k here.
    omega (arith, now k here, ap (column_upto a.blur.bytes a.source.now s.stride k) first_is, ap (column_upto a.blur.bytes a.source.now s.stride k) end_is) in
    let bounds : (k : ℕ) → k < length sums → sum_at sums k ≤ (end - first) * sample_number a.blur.bytes 255 255 = λ k here.
    omega (arith, now k here, column_between a.blur.bytes a.source.now s.stride k first end (λ i. omega (arith, c.type_inv.source i)) (omega (arith, first_is, end_is, below, high))) in
    let whole : length sums ≡ length sums / a.blur.per * a.blur.per = subst (λ n. n ≡ n / a.blur.per * a.blur.per) (sym many) c.requires.image.whole in
    let row : s.width ≡ length sums * sample_cells a.blur.bytes = c.requires.image.row ∙ ap (λ n. n * sample_cells a.blur.bytes) (sym many) in
    let at = row_range s y c.range-row.ensures.start c.range-row.ensures.end c.row.ensures.start c.row.ensures.len in
    let blurs = subst (λ n. BlursRow a.blur.bytes sums a.blur.per a.blur.across n (take (c.range-row.result.end - c.range-row.result.start) (drop c.range-row.result.start c.loop-y.cells)) c.blur_row.new.row)
    (let e : end - first ≡ box_end a.blur.down s.height y - box_first a.blur.down y = omega (arith, first_is, end_is) in e) c.blur_row.ensures.means in
    record {
      put = row_written _ _ _ s y so.put c.requires.image.fits below _ _ at c.blur_row.new.row c.blur_row.ensures.means.as_many
          (λ x column here. row_is a.blur.bytes sums a.source.now s a.blur.per a.blur.across a.blur.down y ((end - first) * sample_number a.blur.bytes 255 255) c.requires.image.per whole row (omega (arith, below, high)) bounds columns _ c.blur_row.new.row x blurs column);
      as_many = many;
      short = omega (arith, c.find_factors.ensures.as_many, so.short);
      factors = λ some. c.find_factors.ensures.found;
      begins = omega (arith, first_is);
      ends = omega (arith, c.min-next_end.ensures, c.row_count-rows.ensures.value);
      order = omega (arith, first_is, end_is, below, high);
      columns = now;
    }

pub returns : goal.returns
unfolding grid_of
returns c =
    let a = c.args in
    let means : ℕ → ℕ → ℕ = λ x j. cell_number a.blur.bytes x (box_mean a.blur.bytes (a.blur.per * sample_cells a.blur.bytes) a.blur.across a.blur.down (shaped_grid a.source.now a.shape) (sample_start a.blur.bytes x) j) in
    let all : c.loop-y.y ≡ row_count a.shape.width a.shape.height = omega (arith, c.loop-y.auto.y-end, c.loop-y-test.false, c.row_count-rows.ensures.value) in
    record {
      grid = shows_table (λ x j. Some (means x j)) a.cells.now c.loop-y.cells a.shape c.loop-y.y c.loop-y.invariant.put all;
      outside = outside_stays (λ x j p. p ≡ Some (means x j)) a.cells.now c.loop-y.cells a.shape c.loop-y.y c.loop-y.invariant.put all;
    }

pub loop-y-init : goal.loop-y-init
loop-y-init c = grind (arith, common_steps)
