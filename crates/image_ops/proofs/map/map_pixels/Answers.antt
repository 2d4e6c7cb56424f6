-- The rows so far are answers, and nothing else has changed.
use Rattle.std.proofs.Common.{arith, rules}
use Rattle.image_shape.specs.Shape.{shaped}
use Rattle.image_model.proofs.Mapped.{is_mapped}
use Rattle.image_ops.proofs.PlaceAnswers.{row_answers_at, all_answered}
use Rattle.image_writes.proofs.RowsWritten.{row_range, row_written}
use Rattle.image_ops.proofs.map.map_pixels.Goals as goal

pub loop-y-preserved : goal.loop-y-preserved
loop-y-preserved g c =
    let made = c.map_cells in
    let at = row_range c.args.shape c.loop-y.y c.range.ensures.start c.range.ensures.end c.row-row.ensures.start c.row-row.ensures.len in
    row_written _ _ _ c.args.shape c.loop-y.y c.loop-y.invariant c.requires.fits (omega (arith, c.row_count-y-end.ensures.value)) _ _ at made.new.cells made.ensures.as_many
    (λ x column here. row_answers_at (λ _ _. goal.F-post g c.args.f.now) _ _ made.new.cells c.args.shape c.loop-y.y _ _ x c.loop-y.invariant at column made.ensures)

pub returns-clause-answers : goal.returns-clause-answers
returns-clause-answers g c = all_answered _ _ _ c.args.shape c.loop-y.y c.loop-y.invariant (omega (arith, c.row_count-y-end.ensures.value))

pub returns-clause-grid : goal.returns-clause-grid
returns-clause-grid g c = is_mapped _ (shaped c.args.cells.now c.args.shape) (shaped c.loop-y.cells c.args.shape) c.requires.fits (search rules) (returns-clause-answers g c)
