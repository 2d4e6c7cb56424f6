-- The rows so far come from the source.
use Rattle.std.proofs.Common.{◌+◌, ◌-◌, ◌*◌, ◌<◌, sym, ap, ◌∙◌, arith}
use Rattle.std.specs.List.{slice_get}
use Rattle.std.proofs.lemmas.Grind.{common_steps}
use Rattle.image_model.specs.Layout.{Layout}
use Rattle.image_model.specs.Grid.{grid_of}
use Rattle.image_model.specs.Rows.{row_count}
use Rattle.image_shape.specs.Shape.{shaped}
use Rattle.image_turns.specs.Quarters.{source_column, source_row, first_column}
use Rattle.image_writes.proofs.RowsWritten.{row_range}
use Rattle.image_turns.proofs.FromPlaces.{row_gathered, becomes_places}
use Rattle.image_turns.proofs.Quarters.{source_place, read_back, read_forth}
use Rattle.image_turns.proofs.turning.quarter_rows.Goals as goal

pub loop-y-preserved : goal.loop-y-preserved
loop-y-preserved g c =
    let s = c.args.shape in
    let y = c.loop-y.y in
    let from : Layout g.row.T.Denot = shaped c.args.source.now c.args.from.shape in
    let at = row_range s y c.range.ensures.start c.range.ensures.end c.row-place.ensures.start c.row-place.ensures.len in
    let below : y < row_count s.width s.height = omega (arith, c.row_count-y-end.ensures.value, c.loop-y-test.true) in
    let add = row_gathered from (source_column c.args.from.crossing from.width) (source_row c.args.from.crossing from.height) _ c.loop-y.cells s y c.loop-y.invariant in
    let column = c.first_column-column.ensures ∙ ap (λ n. first_column c.args.from.crossing n y 1) c.width.ensures.value in
    elim c.if-reads_back.branch [
      | goal.then-reads_back w ↦
          let start = w.row-last.ensures.start ∙ ap (λ n. (n - 1) * from.stride) w.height.ensures.value in
          rw w.cells-is (add _ _ _ _ c.requires.fits below at w.gather_back.ensures.as_many w.gather_back.ensures.taken
          (λ x inside.
          ap (slice_get from.cells) (ap (λ n. w.row-last.result.start + c.first_column-column.result - x * n) w.stride.ensures.value ∙ ap (λ n. n + c.first_column-column.result - x * from.stride) start ∙ ap (λ n. (from.height - 1) * from.stride + n - x * from.stride) column ∙ read_back c.args.from.crossing from.width from.height from.stride x y (sym c.reads_back.ensures ∙ w.if-reads_back.true) (omega (arith, inside, c.requires.columns)))))
      | goal.else-reads_back w ↦
          rw w.cells-is (add _ _ _ _ c.requires.fits below at w.gather.ensures.as_many w.gather.ensures.taken
          (λ x inside.
          ap (slice_get from.cells) (ap (λ n. c.first_column-column.result + x * n) w.stride-else-reads_back.ensures.value ∙ ap (λ n. n + x * from.stride) column ∙ read_forth c.args.from.crossing from.width from.height from.stride x y (sym c.reads_back.ensures ∙ w.if-reads_back.false))))
    ]

pub returns : goal.returns
unfolding grid_of
returns g c =
    let from : Layout g.row.T.Denot = shaped c.args.source.now c.args.from.shape in
    becomes_places from (source_column c.args.from.crossing from.width) (source_row c.args.from.crossing from.height) _ _ c.args.shape c.loop-y.y c.loop-y.invariant _ _ c.requires.columns c.requires.lines (omega (arith, c.row_count-y-end.ensures.value))
    (source_place c.args.from.crossing from.width from.height)

pub overflow_add-last : goal.overflow_add-last
overflow_add-last g c = grind (arith, common_steps)

pub gather_back-requires-clause-enough : goal.gather_back-requires-clause-enough
gather_back-requires-clause-enough g c = grind (arith, common_steps)

pub offset_bounds-cells-range : goal.offset_bounds-cells-range
offset_bounds-cells-range g c = grind (arith, common_steps)

pub row-last-requires-clause-fits : goal.row-last-requires-clause-fits
row-last-requires-clause-fits g c = grind (arith, common_steps)
