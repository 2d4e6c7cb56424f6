-- The rows so far have changed, and nothing else.
use Rattle.std.proofs.Common.{◌≡◌, ◌-◌, ◌<◌, ◌∙◌, subst, arith, take, drop}
use Rattle.image_model.specs.Grid.{grid_of}
use Rattle.image_model.specs.Rows.{row_count}
use Rattle.image_model.specs.Turns.{mirrored}
use Rattle.image_shape.specs.Shape.{shaped}
use Rattle.image_writes.specs.Gathered.{AreGathered}
use Rattle.image_turns.proofs.Crossing.{row_from, from_rows}
use Rattle.image_writes.proofs.RowsWritten.{row_range, row_length, row_written, shows_table, outside_stays}
use Rattle.image_turns.proofs.flipping.reverse_rows.Goals as goal

pub loop-y-preserved : goal.loop-y-preserved
loop-y-preserved g c =
    let made = c.reverse_row in
    let at = row_range c.args.shape c.loop-y.y c.range.ensures.start c.range.ensures.end c.row-row.ensures.start c.row-row.ensures.len in
    let below : c.loop-y.y < row_count c.args.shape.width c.args.shape.height = omega (arith, c.row_count-y-end.ensures.value) in
    let long = row_length _ _ _ c.args.shape c.loop-y.y c.loop-y.invariant c.requires.fits below _ _ at in
    let turned = subst (λ n. AreGathered (λ x. n - 1 - x) (take (c.range.result.end - c.range.result.start) (drop c.range.result.start c.loop-y.cells)) made.new.row) long made.ensures.turned in
    row_written _ _ _ c.args.shape c.loop-y.y c.loop-y.invariant c.requires.fits below _ _ at made.new.row made.ensures.as_many
    (row_from (λ x. c.args.shape.width - 1 - x) _ _ made.new.row c.args.shape c.loop-y.y _ _ c.loop-y.invariant at turned (λ x column. omega (arith, column)))

pub returns : goal.returns
unfolding grid_of mirrored
returns g c =
    let all : c.loop-y.y ≡ row_count c.args.shape.width c.args.shape.height = omega (arith, c.row_count-y-end.ensures.value) in
    record {
      grid =
          shows_table _ _ _ c.args.shape c.loop-y.y c.loop-y.invariant all
          ∙ from_rows (λ x. c.args.shape.width - 1 - x) (shaped c.args.cells.now c.args.shape) (λ x column. omega (arith, column));
      outside = outside_stays _ _ _ c.args.shape c.loop-y.y c.loop-y.invariant all;
    }
