-- One row more.
use Rattle.std.proofs.Common.{◌+◌, ◌<◌, length, ◌∙◌, arith}
use Rattle.image_means.proofs.ColumnSums.{column_more}
use Rattle.image_means.proofs.blur.add_rows.Goals as goal

pub add_row-requires-clause-bounds : goal.add_row-requires-clause-bounds
add_row-requires-clause-bounds c = λ k here.
    let so = c.loop-y.invariant in
    let there : k < length c.args.sums.now = omega (arith, here, so.as_many) in
    omega (arith, so.each k here, column_more c.args.bytes c.args.cells.now c.range.result.start c.range.result.end c.row.result.start c.row.result.len c.args.shape.stride c.loop-y.y (length c.args.sums.now) k c.range.ensures.start c.range.ensures.end c.row.ensures.start (c.row.ensures.len ∙ c.requires.rows.row) there, c.requires.bounds k (c.loop-y.y + 1) there (omega (arith, so.order)) (omega (arith, c.loop-y-test.true, c.loop-y.auto.y-end)))

pub loop-y-preserved : goal.loop-y-preserved
loop-y-preserved c = record {
  order = omega (arith, c.loop-y.invariant.order);
  as_many = omega (arith, c.add_row.ensures.as_many, c.loop-y.invariant.as_many);
  each = λ k below. omega (arith, c.add_row.ensures.each k (omega (arith, below, c.add_row.ensures.as_many)), c.loop-y.invariant.each k (omega (arith, below, c.add_row.ensures.as_many)), column_more c.args.bytes c.args.cells.now c.range.result.start c.range.result.end c.row.result.start c.row.result.len c.args.shape.stride c.loop-y.y (length c.args.sums.now) k c.range.ensures.start c.range.ensures.end c.row.ensures.start (c.row.ensures.len ∙ c.requires.rows.row) (omega (arith, below, c.add_row.ensures.as_many, c.loop-y.invariant.as_many)));
}
