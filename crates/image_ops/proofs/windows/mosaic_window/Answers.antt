-- The image shows at the window what was written there.
use borrow.Author.Rules.{rules, scaled_fits≤}
use Rattle.std.proofs.Common.{ap, ◌-◌, ◌∙◌}
use borrow.Rule.Slice.PartMut.{mid_of}
use Rattle.image_model.specs.Grid.{grid_of, patch}
use Rattle.image_writes.specs.Mosaic.{mosaic}
use Rattle.image_shape.specs.Shape.{shaped}
use Rattle.image_ops.proofs.Mosaics.{mosaic_of_cells}
use Rattle.image_writes.proofs.WindowWrites.{part_shows, part_grid, part_outside}
use Rattle.image_ops.proofs.windows.mosaic_window.Goals as goal

pub returns-clause-grid : goal.returns-clause-grid
returns-clause-grid g c =
    let a = c.args in
    let part = shaped (mid_of c.exact_part.result.0.start (c.exact_part.result.0.end - c.exact_part.result.0.start) a.cells.now) c.exact_part.result.1 in
    part_grid _ _ _ _ _ _ c.exact_part.ensures.part c.mosaic_cells.new.cells c.mosaic_cells.ensures.outside
    ∙ ap (patch (grid_of (shaped a.cells.now a.shape)) a.window.left a.window.top) (c.mosaic_cells.ensures.grid ∙ mosaic_of_cells a.tile_width a.tile_height (grid_of part) ∙ ap (mosaic a.tile_width a.tile_height) (part_shows _ _ _ _ _ _ c.exact_part.ensures.part))

pub returns-clause-outside : goal.returns-clause-outside
returns-clause-outside g c = part_outside _ _ _ _ _ _ c.exact_part.ensures.part c.mosaic_cells.new.cells c.mosaic_cells.ensures.outside

pub offset_bounds-cells-part : goal.offset_bounds-cells-part
offset_bounds-cells-part g c = search (rules, scaled_fits≤) depth 2 fits 100
