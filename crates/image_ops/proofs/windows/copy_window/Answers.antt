-- The image shows at the window what was written there.
use Rattle.std.proofs.Common.{ap, ◌∙◌, arith}
use Rattle.std.proofs.lemmas.Grind.{common_steps}
use Rattle.image_model.specs.Grid.{grid_of, patch}
use Rattle.image_shape.specs.Shape.{shaped}
use Rattle.image_writes.proofs.WindowWrites.{part_grid, part_outside}
use Rattle.image_ops.proofs.windows.copy_window.Goals as goal

pub returns-clause-grid : goal.returns-clause-grid
returns-clause-grid g c =
    let a = c.args in
    part_grid _ _ _ _ _ _ c.exact_part.ensures.part c.copy_pixels.new.cells c.copy_pixels.ensures.outside
    ∙ ap (patch (grid_of (shaped a.cells.now a.shape)) a.window.left a.window.top) c.copy_pixels.ensures.grid

pub returns-clause-outside : goal.returns-clause-outside
returns-clause-outside g c = part_outside _ _ _ _ _ _ c.exact_part.ensures.part c.copy_pixels.new.cells c.copy_pixels.ensures.outside

pub exact_part-requires-clause-fits : goal.exact_part-requires-clause-fits
exact_part-requires-clause-fits g c = grind (arith, common_steps)

pub copy_pixels-requires-clause-fits : goal.copy_pixels-requires-clause-fits
copy_pixels-requires-clause-fits g c = grind (arith, common_steps)

pub copy_pixels-requires-clause-source_fits : goal.copy_pixels-requires-clause-source_fits
copy_pixels-requires-clause-source_fits g c = grind (arith, common_steps)

pub offset_bounds-cells-part : goal.offset_bounds-cells-part
offset_bounds-cells-part g c = grind (arith, common_steps)
