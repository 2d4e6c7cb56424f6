-- The image shows at the window what was written there.
use Rattle.std.proofs.Common.{ap, ◌∙◌}
use Rattle.image_model.specs.Flips.{flipped}
use Rattle.image_model.specs.Grid.{grid_of, patch}
use Rattle.image_shape.specs.Shape.{shaped}
use Rattle.image_writes.proofs.WindowWrites.{part_shows, part_grid, part_outside}
use Rattle.image_turns.proofs.pixel_flips.flip_window_rows.Goals as goal

pub returns-clause-grid : goal.returns-clause-grid
returns-clause-grid g c =
    let a = c.args in
    part_grid _ _ _ _ _ _ c.exact_part.ensures.part c.flip_rows.new.cells c.flip_rows.ensures.outside
    ∙ ap (patch (grid_of (shaped a.cells.now a.shape)) a.window.left a.window.top) (c.flip_rows.ensures.grid ∙ ap flipped (part_shows _ _ _ _ _ _ c.exact_part.ensures.part))

pub returns-clause-outside : goal.returns-clause-outside
returns-clause-outside g c = part_outside _ _ _ _ _ _ c.exact_part.ensures.part c.flip_rows.new.cells c.flip_rows.ensures.outside
