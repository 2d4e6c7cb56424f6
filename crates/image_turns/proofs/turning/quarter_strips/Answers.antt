-- One strip more, and all columns.
use borrow.Author.Rules.{rules, scaled_fits≤}
use Rattle.std.proofs.Common.{List, ◌+◌, ◌≤◌, sym, ap, ◌∙◌, arith}
use Rattle.image_model.specs.Grid.{Grid, grid_of, patch, view}
use Rattle.image_model.specs.Windows.{window, window_view}
use Rattle.image_turns.specs.Quarters.{quartered, first_row}
use Rattle.image_shape.specs.Shape.{shaped_grid}
use Rattle.image_writes.specs.Written.{Becomes}
use Rattle.image_turns.proofs.Quarters.{whole_column, becomes_quartered}
use Rattle.image_turns.proofs.QuarterBlocks.{view_quartered}
use Rattle.image_writes.proofs.WindowWrites.{part_becomes}
use Rattle.image_turns.proofs.Windowed.{before_strip, shows_more, window_becomes}
use Rattle.image_turns.proofs.turning.quarter_strips.Goals.{then-is_copied, else-is_copied+then-blocks_pay, else-is_copied+else-blocks_pay}
use Rattle.image_turns.proofs.turning.quarter_strips.Goals as goal

pub loop-left-preserved : goal.loop-left-preserved
unfolding grid_of
loop-left-preserved g c =
    let a = c.args in
    let s = a.shape in
    let left = c.loop-left.left in
    let count = c.min-width.result in
    let from : Grid g.row.T.Denot = shaped_grid a.source.now a.from.shape in
    let q = quartered a.from.crossing from in
    let is_top = c.first_row-top.ensures ∙ ap (λ n. first_row a.from.crossing n left count) c.height-source_height.ensures.value in
    let seen = c.padded_part.ensures.view ∙ ap (window_view from) (c.new-rows.ensures ∙ ap (λ n. window 0 c.first_row-top.result n count) c.width-source_width.ensures.value) in
    let there : left + count ≤ from.height = omega (arith, c.min-width.ensures, c.loop-left-test.true, c.width-columns.ensures.value, c.requires.columns) in
    let shown = ap (quartered a.from.crossing) seen ∙ view_quartered a.from.crossing from left 0 count from.width 0 c.first_row-top.result there (omega arith) (whole_column a.from.crossing from.width) is_top in
    let is_strip = c.new-strip.ensures ∙ ap (window left 0 count) c.height-lines.ensures.value in
    let more = λ (new : List g.row.T.Denot) (became : Becomes s c.loop-left.cells new (patch (shaped_grid c.loop-left.cells s) c.new-strip.result.left c.new-strip.result.top (quartered a.from.crossing (shaped_grid c.padded_part.result.0.now c.padded_part.result.1)))).
    shows_more c.loop-left.invariant left 0 count s.height
    (window_becomes q s c.loop-left.cells new _ left 0 count s.height is_strip _ (shown ∙ ap (λ n. view q left 0 count n) (sym c.requires.lines)) became)
    (λ x y column line. before_strip left count s.height x y line) in
    elim c.if-is_copied.branch [
      | then-is_copied w ↦ rw w.cells-is (more _ (part_becomes _ _ _ _ _ _ c.exact_part.ensures.part _ _ w.quarter_copied.ensures))
      | else-is_copied+then-blocks_pay w ↦ rw w.cells-is (more _ (part_becomes _ _ _ _ _ _ c.exact_part.ensures.part _ _ w.quarter_blocks.ensures))
      | else-is_copied+else-blocks_pay w ↦ rw w.cells-is (more _ (part_becomes _ _ _ _ _ _ c.exact_part.ensures.part _ _ w.quarter_rows.ensures))
    ]

pub returns : goal.returns
returns g c = becomes_quartered c.args.from.crossing c.requires c.loop-left.invariant (λ x y column line. omega (arith, column, c.loop-left-test.false, c.width-columns.ensures.value))

pub offset_bounds-cells-cut : goal.offset_bounds-cells-cut
offset_bounds-cells-cut g c = search (rules, scaled_fits≤) depth 2 fits 100
