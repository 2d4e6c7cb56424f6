-- The image shows at the window what was written there.
use Rattle.std.proofs.Common.{ap, ◌∙◌}
use Rattle.image_model.specs.Grid.{grid_of, patch}
use Rattle.image_shape.specs.Shape.{shaped}
use Rattle.image_writes.specs.Mirrored.{mirrored_by}
use Rattle.image_writes.proofs.WindowWrites.{part_shows, part_grid, part_outside}
use Rattle.image_turns.proofs.pixel_flips.flip_window_columns.Goals as goal

pub returns-clause-grid : goal.returns-clause-grid
returns-clause-grid g c =
    let a = c.args in
    part_grid _ _ _ _ _ _ c.exact_part.ensures.part c.mirror_pixels.new.cells c.mirror_pixels.ensures.outside
    ∙ ap (patch (grid_of (shaped a.cells.now a.shape)) a.window.left a.window.top) (c.mirror_pixels.ensures.grid ∙ ap (mirrored_by a.size) (part_shows _ _ _ _ _ _ c.exact_part.ensures.part))

pub returns-clause-outside : goal.returns-clause-outside
returns-clause-outside g c = part_outside _ _ _ _ _ _ c.exact_part.ensures.part c.mirror_pixels.new.cells c.mirror_pixels.ensures.outside
