-- The tile filled patches the image with one value there.
use Rattle.std.proofs.Common.{◌∷◌, List, sym, ap, ◌∙◌}
use Rattle.std.proofs.lemmas.Bool.{cond-true}
use Rattle.image_model.specs.Grid.{grid_of, patch, uniform}
use Rattle.image_model.specs.Windows.{Window}
use Rattle.image_model.proofs.Places.{is_fitting_decides}
use Rattle.imgref.specs.Image.{layout_by}
use Rattle.image_tiles.specs.Tiling.{tile_now}
use Rattle.image_tiles.specs.Lending.{image_of, tiling_of}
use Rattle.part_callers.proofs.tiles.fill_next_tile.Goals as goal

pub returns-clause-grid : goal.returns-clause-grid
returns-clause-grid g c =
    let w : Window = tile_now (tiling_of c.args.tiles.now) in
    let tile = c.tile_parts-cells.ensures.tile in
    tile.grid c.fill.new.cells c.fill.ensures.outside
    ∙ ap (patch (grid_of (layout_by g.C.AsSlice.cells (image_of c.args.tiles.now))) w.left w.top) (c.fill.ensures.grid ∙ (λ i. uniform (tile.same_width i) (tile.same_height i) c.args.value))

pub returns-clause-fits : goal.returns-clause-fits
returns-clause-fits g c = c.tile_parts-cells.ensures.tile.still_fits c.fill.new.cells c.fill.ensures.outside

pub returns-clause-rest : goal.returns-clause-rest
returns-clause-rest g c =
    c.tile_parts-cells.ensures.tile.first
    ∙ ap (λ (ws : List Window). tile_now (tiling_of c.args.tiles.now) ∷ ws) (sym (cond-true _ _ _ ((is_fitting_decides _).1 (returns-clause-fits g c))))
