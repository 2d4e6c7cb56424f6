-- The image shows at the window what was written there.
use borrow.Author.Rules.{rules, scaled_fits≤}
use Rattle.std.proofs.Common.{ap, ◌∙◌}
use Rattle.image_model.specs.Grid.{grid_of, patch}
use Rattle.image_means.specs.Means.{sample_mosaic_by}
use Rattle.image_shape.specs.Shape.{shaped}
use Rattle.image_writes.proofs.WindowWrites.{part_shows, part_grid, part_outside}
use Rattle.image_means.proofs.means.mean_part.Goals as goal

pub returns : goal.returns
returns g c =
    let a = c.args in
    let part = c.exact_part.ensures.part in
    record {
      grid =
          part_grid _ _ _ _ _ _ part c.mean_cells.new.cells c.mean_cells.ensures.outside
          ∙ ap (patch (grid_of (shaped a.cells.now a.shape)) a.window.left a.window.top)
          (c.mean_cells.ensures.grid ∙ ap (sample_mosaic_by a.bytes g.T.Sample.number g.T.Sample.sample a.tile.size a.tile.width a.tile.height) (part_shows _ _ _ _ _ _ part));
      outside = part_outside _ _ _ _ _ _ part c.mean_cells.new.cells c.mean_cells.ensures.outside;
    }

pub offset_bounds-cells-part : goal.offset_bounds-cells-part
offset_bounds-cells-part g c = search (rules, scaled_fits≤) depth 2 fits 100
