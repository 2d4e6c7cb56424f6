-- The rows so far are answers, and nothing else has changed.
use Rattle.std.proofs.Common.{◌<◌, ◌∙◌, sym, arith, rules}
use Rattle.std.proofs.lemmas.Grind.{common_steps}
use Rattle.image_model.specs.Rows.{row_count}
use Rattle.image_shape.specs.Shape.{shaped}
use Rattle.image_model.proofs.Mapped.{is_mapped_by_place}
use Rattle.image_model.proofs.Rows.{row_count-le}
use Rattle.image_ops.proofs.PlaceAnswers.{row_answers_at, all_answered}
use Rattle.image_ops.proofs.Elements.{in_row}
use Rattle.image_writes.proofs.RowsWritten.{row_range, row_length, cell_of_row, row_written}
use Rattle.image_ops.proofs.places.map_places.Goals as goal

pub map_row-requires : goal.map_row-requires
map_row-requires g c = record {
  callable = λ x p here.
      let at = row_range c.args.shape c.loop-y.y c.range.ensures.start c.range.ensures.end c.row-row.ensures.start c.row-row.ensures.len in
      let below : c.loop-y.y < row_count c.args.shape.width c.args.shape.height = omega (arith, c.row_count-y-end.ensures.value) in
      let column = in_row _ x p _ here (row_length _ _ _ c.args.shape c.loop-y.y c.loop-y.invariant c.requires.fits below _ _ at) in
      c.requires.callable x c.loop-y.y p column (omega (arith, below, row_count-le c.args.shape.width c.args.shape.height))
      (sym (cell_of_row _ _ _ c.args.shape c.loop-y.y c.loop-y.invariant _ _ x at column) ∙ here);
}

pub loop-y-preserved : goal.loop-y-preserved
loop-y-preserved g c =
    let at = row_range c.args.shape c.loop-y.y c.range.ensures.start c.range.ensures.end c.row-row.ensures.start c.row-row.ensures.len in
    row_written _ _ _ c.args.shape c.loop-y.y c.loop-y.invariant c.requires.fits (omega (arith, c.row_count-y-end.ensures.value)) _ _ at c.map_row.new.cells c.map_row.ensures.as_many
    (λ x column here. row_answers_at (goal.F-post g c.args.f.now) _ _ c.map_row.new.cells c.args.shape c.loop-y.y _ _ x c.loop-y.invariant at column c.map_row.ensures)

pub returns-clause-answers : goal.returns-clause-answers
returns-clause-answers g c = all_answered _ _ _ c.args.shape c.loop-y.y c.loop-y.invariant (omega (arith, c.row_count-y-end.ensures.value))

pub returns-clause-grid : goal.returns-clause-grid
returns-clause-grid g c = is_mapped_by_place _ (shaped c.args.cells.now c.args.shape) (shaped c.loop-y.cells c.args.shape) c.requires.fits (search rules) (returns-clause-answers g c)

pub offset_bounds-cells-range : goal.offset_bounds-cells-range
offset_bounds-cells-range g c = grind (arith, common_steps)
