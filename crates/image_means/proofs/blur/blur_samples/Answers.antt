-- The image shows at the window what was written there.
use Rattle.std.proofs.Common.{◌/◌, ◌*◌, length, ap, ap₂, ◌∙◌, ◌≡◌, rules}
use Rattle.image_model.specs.Grid.{grid_of, patch}
use Rattle.image_means.specs.Blur.{blurred}
use Rattle.image_means.specs.Means.{sample_cells}
use Rattle.image_shape.specs.Shape.{shaped}
use Rattle.image_means.proofs.BoxMeans.{size_is, row_whole}
use Rattle.image_writes.proofs.WindowWrites.{part_shows, part_grid, part_outside}
use Rattle.image_means.proofs.blur.blur_samples.Goals as goal

pub blur_cells-requires-clause-image : goal.blur_cells-requires-clause-image
blur_cells-requires-clause-image c =
    let a = c.args in
    let pixel : a.size / c.cells_of.result * sample_cells a.bytes ≡ a.size = ap (λ n. a.size / n * sample_cells a.bytes) c.cells_of.ensures ∙ size_is a.bytes a.size c.requires.pixels in
    record {
      fits = search rules;
      room = search rules;
      per = search rules;
      whole = row_whole a.bytes (length a.sums.now) a.size (a.size / c.cells_of.result) a.window.width c.requires.size pixel c.requires.whole c.requires.sums;
      row = search rules;
      across = c.requires.across;
      down = c.requires.down;
    }

pub returns-clause-grid : goal.returns-clause-grid
returns-clause-grid c =
    let a = c.args in
    part_grid _ _ _ _ _ _ c.exact_part.ensures.part c.blur_cells.new.cells c.blur_cells.ensures.outside
    ∙ ap (patch (grid_of (shaped a.cells.now a.shape)) a.window.left a.window.top)
    (c.blur_cells.ensures.grid
    ∙ ap₂ (λ n g. blurred a.bytes n a.across a.down g) (ap (λ n. a.size / n * sample_cells a.bytes) c.cells_of.ensures ∙ size_is a.bytes a.size c.requires.pixels) (part_shows _ _ _ _ _ _ c.exact_part.ensures.part))

pub returns-clause-outside : goal.returns-clause-outside
returns-clause-outside c = part_outside _ _ _ _ _ _ c.exact_part.ensures.part c.blur_cells.new.cells c.blur_cells.ensures.outside
