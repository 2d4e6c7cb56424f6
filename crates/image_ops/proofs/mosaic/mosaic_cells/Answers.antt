-- Tiles of one pixel.
use Rattle.std.proofs.Common.{sym, ◌∙◌, ap₂}
use Rattle.image_model.specs.Layout.{Layout, pixel}
use Rattle.image_model.specs.Grid.{grid_of}
use Rattle.image_shape.specs.Shape.{shaped}
use Rattle.image_writes.specs.Mosaic.{mosaic_by}
use Rattle.image_ops.proofs.Mosaics.{of_single_tiles}
use Rattle.image_ops.proofs.mosaic.mosaic_cells.Goals as goal

pub returns-then-tile_height-eq1-clause-grid : goal.returns-then-tile_height-eq1-clause-grid
unfolding grid_of
returns-then-tile_height-eq1-clause-grid g c =
    let l : Layout g.row.T.Denot = shaped c.args.cells.now c.args.shape in
    of_single_tiles c.args.size l.width l.height (pixel l)
    ∙ ap₂ (λ w h. mosaic_by c.args.size w h (grid_of l)) (sym c.if-tile_width-eq1.true) (sym c.if-tile_height-eq1.true)
