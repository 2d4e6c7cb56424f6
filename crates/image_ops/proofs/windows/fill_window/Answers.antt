-- The image shows at the window what was written there.
use Rattle.std.proofs.Common.{ap, ◌∙◌, arith}
use Rattle.std.proofs.lemmas.Grind.{common_steps}
use Rattle.image_model.specs.Grid.{grid_of, patch, uniform}
use Rattle.image_shape.specs.Shape.{shaped}
use Rattle.image_writes.proofs.WindowWrites.{part_grid, part_outside}
use Rattle.image_ops.proofs.windows.fill_window.Goals as goal

pub returns-clause-grid : goal.returns-clause-grid
returns-clause-grid g c =
    let a = c.args in
    part_grid _ _ _ _ _ _ c.exact_part.ensures.part c.fill_pixels.new.cells c.fill_pixels.ensures.outside
    ∙ ap (patch (grid_of (shaped a.cells.now a.shape)) a.window.left a.window.top) (c.fill_pixels.ensures.grid ∙ (λ i. uniform (c.exact_part.ensures.part.width i) (c.exact_part.ensures.part.height i) a.value))

pub returns-clause-outside : goal.returns-clause-outside
returns-clause-outside g c = part_outside _ _ _ _ _ _ c.exact_part.ensures.part c.fill_pixels.new.cells c.fill_pixels.ensures.outside

pub offset_bounds-cells-part : goal.offset_bounds-cells-part
offset_bounds-cells-part g c = grind (arith, common_steps)
