-- The mosaic of tiles that begin with their means.
use Rattle.std.proofs.Common.{◌∙◌}
use Rattle.image_model.proofs.Places.{outside_trans}
use Rattle.image_means.proofs.MeanTiles.{mosaic_of_means}
use Rattle.image_means.proofs.means.mean_cells.Goals as goal

pub returns : goal.returns
returns g c =
    let a = c.args in
    record {
      grid = c.mosaic_cells.ensures.grid ∙ mosaic_of_means a.bytes g.T.Sample.number g.T.Sample.sample a.tile.size a.tile.width a.tile.height a.cells.now c.put_means.new.cells a.shape c.requires.tiled.samples.some c.requires.tiled.wide c.requires.tiled.high c.put_means.ensures.grid;
      outside = outside_trans _ _ _ c.put_means.ensures.outside c.mosaic_cells.ensures.outside;
    }
