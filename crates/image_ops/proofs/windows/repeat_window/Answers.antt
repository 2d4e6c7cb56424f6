-- The image shows at the window what was written there.
use Rattle.std.proofs.Common.{ap, ◌∙◌, arith}
use Rattle.std.proofs.lemmas.Grind.{common_steps}
use Rattle.image_model.specs.Grid.{grid_of, patch}
use Rattle.image_ops.specs.Repeated.{repeated}
use Rattle.image_shape.specs.Shape.{shaped}
use Rattle.image_ops.proofs.Patterns.{one_value}
use Rattle.image_writes.proofs.WindowWrites.{part_grid, part_outside}
use Rattle.image_ops.proofs.windows.repeat_window.Goals as goal

pub returns-clause-grid : goal.returns-clause-grid
returns-clause-grid g c =
    let a = c.args in
    part_grid _ _ _ _ _ _ c.exact_part.ensures.part c.repeat_pixels.new.cells c.repeat_pixels.ensures.outside
    ∙ ap (patch (grid_of (shaped a.cells.now a.shape)) a.window.left a.window.top) (c.repeat_pixels.ensures.grid ∙ (λ i. repeated (c.exact_part.ensures.part.width i) (c.exact_part.ensures.part.height i) a.pattern.now))

pub returns-clause-outside : goal.returns-clause-outside
returns-clause-outside g c = part_outside _ _ _ _ _ _ c.exact_part.ensures.part c.repeat_pixels.new.cells c.repeat_pixels.ensures.outside

-- A pattern of one cell is a value.
pub returns-then-pattern-eq1-clause-grid : goal.returns-then-pattern-eq1-clause-grid
returns-then-pattern-eq1-clause-grid g c =
    let a = c.args in
    c.fill_window.ensures.grid ∙ ap (patch (grid_of (shaped a.cells.now a.shape)) a.window.left a.window.top) (one_value a.window.width a.window.height a.pattern.now c.index-pattern-0.result c.if-pattern-eq1.true c.index-pattern-0.is)

pub offset_bounds-cells-part : goal.offset_bounds-cells-part
offset_bounds-cells-part g c = grind (arith, common_steps)

pub fill_window-requires-clause-fits : goal.fill_window-requires-clause-fits
fill_window-requires-clause-fits g c = grind (arith, common_steps)

pub repeat_pixels-requires-clause-fits : goal.repeat_pixels-requires-clause-fits
repeat_pixels-requires-clause-fits g c = grind (arith, common_steps)
