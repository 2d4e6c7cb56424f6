-- The image shows at the window what was written there.
use Rattle.std.proofs.Common.{ap, ◌∙◌, arith}
use Rattle.std.proofs.lemmas.Grind.{common_steps}
use Rattle.image_model.specs.Grid.{grid_of, patch}
use Rattle.image_writes.specs.Mosaic.{mosaic_by}
use Rattle.image_shape.specs.Shape.{shaped}
use Rattle.image_writes.proofs.WindowWrites.{part_shows, part_grid, part_outside}
use Rattle.image_ops.proofs.windows.mosaic_window_by.Goals as goal

pub returns-clause-grid : goal.returns-clause-grid
returns-clause-grid g c =
    let a = c.args in
    part_grid _ _ _ _ _ _ c.exact_part.ensures.part c.mosaic_cells.new.cells c.mosaic_cells.ensures.outside
    ∙ ap (patch (grid_of (shaped a.cells.now a.shape)) a.window.left a.window.top) (c.mosaic_cells.ensures.grid ∙ ap (mosaic_by a.size a.tile_width a.tile_height) (part_shows _ _ _ _ _ _ c.exact_part.ensures.part))

pub returns-clause-outside : goal.returns-clause-outside
returns-clause-outside g c = part_outside _ _ _ _ _ _ c.exact_part.ensures.part c.mosaic_cells.new.cells c.mosaic_cells.ensures.outside

pub mosaic_cells-requires-clause-fits : goal.mosaic_cells-requires-clause-fits
mosaic_cells-requires-clause-fits g c = grind (arith, common_steps)

pub offset_bounds-cells-part : goal.offset_bounds-cells-part
offset_bounds-cells-part g c = grind (arith, common_steps)
