-- The tiles flattened one after the other make the mosaic.
use Rattle.std.proofs.Common.{ap, sym, subst, ◌∙◌, List}
use Rattle.std.specs.Borrow.{MutBor}
use Rattle.image_model.specs.Layout.{Fits, pixel}
use Rattle.image_model.specs.Grid.{grid_of}
use Rattle.imgref.specs.declared.img.Img.{Img}
use Rattle.imgref.specs.Image.{mut_layout, width_of, height_of}
use Rattle.image_tiles.specs.Lending.{image_of, tiling_of}
use Rattle.image_tiles.specs.Tiling.{windows_left}
use Rattle.part_callers.specs.Flattening.{all_flattened}
use Rattle.part_callers.proofs.TileByTile.{mosaic_is}
use Rattle.part_callers.proofs.Flattening.{all_left}
use Rattle.part_callers.proofs.mosaics.mosaic_of.Goals as goal

pub returns-clause-grid : goal.returns-clause-grid
unfolding grid_of
returns-clause-grid g c =
    let i : Img (MutBor (List g.row.T.Denot)) = c.args.img in
    let made = c.new-tiles in
    let fits : Fits (mut_layout (image_of made.result)) = subst (λ (j : Img (MutBor (List g.row.T.Denot))). Fits (mut_layout j)) (sym made.ensures.image) c.requires.fits in
    ap (λ (j : Img (MutBor (List g.row.T.Denot))). grid_of (mut_layout j)) c.into_img.ensures
    ∙ c.flatten_rest.ensures.grid
    ∙ ap (λ (j : Img (MutBor (List g.row.T.Denot))). all_flattened (grid_of (mut_layout j)) (windows_left (tiling_of made.result))) made.ensures.image
    ∙ ap (all_flattened (grid_of (mut_layout i))) (sym (all_left made.result fits) ∙ made.ensures.rest)
    ∙ mosaic_is (width_of i) (height_of i) c.args.tile_width c.args.tile_height c.requires.tile_width c.requires.tile_height (pixel (mut_layout i))
