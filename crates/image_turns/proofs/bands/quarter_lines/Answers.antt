-- Sixteen rows more, and all rows.
use borrow.Author.Rules.{rules, scaled_fits≤}
use Rattle.std.proofs.Common.{◌+◌, ◌-◌, ◌≤◌, ap, ◌∙◌, arith, min}
use Rattle.image_model.specs.Grid.{Grid, grid_of}
use Rattle.image_model.specs.Windows.{window, window_view}
use Rattle.image_shape.specs.Shape.{shaped_grid}
use Rattle.image_turns.specs.Quarters.{quartered, first_column}
use Rattle.image_turns.proofs.Quarters.{before_rows, becomes_quartered}
use Rattle.image_turns.proofs.QuarterBlocks.{band_quartered}
use Rattle.image_turns.proofs.SquareBlocks.{read_window}
use Rattle.image_turns.proofs.Windowed.{shows_more, window_becomes}
use Rattle.image_writes.proofs.WindowWrites.{part_becomes}
use Rattle.image_turns.proofs.bands.quarter_lines.Goals as goal

pub loop-top-preserved : goal.loop-top-preserved
unfolding grid_of
loop-top-preserved g c =
    let a = c.args in
    let s = a.shape in
    let from : Grid g.row.T.Denot = shaped_grid a.source.now a.from.shape in
    let q = quartered a.from.crossing from in
    let top = c.loop-top.top in
    let line = c.min-line.result in
    let column = c.first_column-column.result in
    let rows = c.height-rows.result in
    let is_line = c.min-line.ensures ∙ ap (λ n. min top (n - 16)) c.height-height.ensures.value in
    let there : line + 16 ≤ from.width = omega (arith, is_line, c.requires.high, c.requires.sizes.lines) in
    let is_column = c.first_column-column.ensures ∙ ap (λ n. first_column a.from.crossing n line 16) c.width-columns.ensures.value in
    let is_shown = c.new-shown.ensures ∙ ap (λ n. window 0 line n 16) c.width-width.ensures.value in
    let blocks = c.quarter_blocks.ensures.grid ∙ ap (quartered a.from.crossing) (c.padded_part.ensures.view ∙ ap (window_view from) c.new-place.ensures) in
    let read = read_window q (window 0 line s.width 16) (blocks ∙ band_quartered a.from.crossing from line s.width 16 column rows there c.requires.sizes.columns c.height-rows.ensures.value is_column) in
    let became =
    window_becomes q s c.loop-top.cells _ _ 0 line s.width 16 is_shown _ read
    (part_becomes _ _ _ _ _ _ c.exact_part.ensures.part _ _ c.read_rows.ensures) in (
      shows_more c.loop-top.invariant.0 0 line s.width 16 became (λ x y column below. before_rows s.width s.height top line 16 (top + 16) x y column below (omega (arith, is_line)) (omega (arith, is_line, c.requires.high))),
      c.quarter_blocks.ensures.outside.length_stays ∙ c.loop-top.invariant.1,
    )

pub returns-clause-becomes : goal.returns-clause-becomes
returns-clause-becomes g c = becomes_quartered c.args.from.crossing c.requires.sizes c.loop-top.invariant.0 (λ x y column line. omega (arith, line, c.loop-top-test.false, c.height-height.ensures.value))

pub offset_bounds-cells-part : goal.offset_bounds-cells-part
offset_bounds-cells-part g c = search (rules, scaled_fits≤) depth 2 fits 100
