-- The image shows at the window what was written there.
use borrow.Author.Rules.{rules, scaled_fits≤}
use Rattle.std.proofs.Common.{◌*◌, sym, ap, ◌∙◌, subst, arith}
use Rattle.image_model.specs.Grid.{grid_of, patch}
use Rattle.image_shape.specs.Shape.{shaped_grid}
use Rattle.image_model.specs.Turns.{transposed}
use Rattle.image_turns.specs.Oriented.{oriented}
use Rattle.image_turns.specs.declared.pixel_turning.Orientation.TheVariants.{Transposed}
use Rattle.image_writes.specs.Written.{Becomes}
use Rattle.image_writes.proofs.PixelsOfRows.{pixels_of_row}
use Rattle.image_turns.proofs.Oriented.{placed_cells}
use Rattle.image_turns.proofs.BlockPairs.{whole_across}
use Rattle.image_writes.proofs.WindowWrites.{part_becomes}
use Rattle.image_turns.proofs.block_pairs.write_across.Goals as goal

pub returns-then-this-eq1 : goal.returns-then-this-eq1
unfolding grid_of transposed
returns-then-this-eq1 g c =
    let a = c.args in
    let cells = placed_cells Transposed (shaped_grid a.block.now a.block_shape) ∙ ap (λ n. oriented n Transposed (shaped_grid a.block.now a.block_shape)) (sym c.if-this-eq1.true) in
    subst (Becomes a.shape _ _) (ap (patch (shaped_grid a.cells.now a.shape) a.window.left a.window.top) cells) (part_becomes _ _ _ _ _ _ c.exact_part.ensures.part _ _ c.quarter_rows.ensures)

pub returns : goal.returns
unfolding grid_of
returns g c =
    let a = c.args in
    let n = g.row.N in
    let b = a.block_shape in
    let high = c.exact_part.ensures.part.height ∙ sym (pixels_of_row n a.window.height b.width c.requires.some c.requires.lines) in
    subst (Becomes a.shape _ _)
    (ap (patch (shaped_grid a.cells.now a.shape) a.window.left a.window.top) (whole_across n (shaped_grid a.block.now b) _ _ _ (omega arith) (ap (λ k. k * n) c.height-count.ensures.value) high))
    (part_becomes _ _ _ _ _ _ c.exact_part.ensures.part _ _ c.orient_rows.ensures)

pub offset_bounds-cells-part : goal.offset_bounds-cells-part
offset_bounds-cells-part g c = search (rules, scaled_fits≤) depth 2 fits 100

pub offset_bounds-cells-part-2 : goal.offset_bounds-cells-part-2
offset_bounds-cells-part-2 g c = search (rules, scaled_fits≤) depth 2 fits 100
