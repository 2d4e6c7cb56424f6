-- A tile, taken as its cells and its shape.
use Rattle.std.specs.Prelude.{◌≡◌, ◌∷◌, Bool, List}
use Rattle.image_model.specs.Layout.{Layout, Fits}
use Rattle.image_model.specs.Windows.{Stretch}
use Rattle.imgref.specs.Written.{WindowPatchesGrid, WindowKeepsOutside, WindowKeepsFit}
use Rattle.image_tiles.specs.declared.tiles.TileCursor.{TileCursor}
use Rattle.image_tiles.specs.Tiling.{windows_left, tile_now, stepped}
use Rattle.image_tiles.specs.Lending.{image_of, tiling_of, tiles_left}

-- the first of the tiles that are left, as a layout: it fits, it shows the view, and what is written in it is in the image
pub record IsTile {C T : Type 0} (cells : C → List T) (with_cells : C → Stretch → List T → C) (padded : Bool) (s : TileCursor C) (tile : Layout T) : Type 0 where
  pub first : tiles_left cells s ≡ tile_now (tiling_of s) ∷ windows_left (stepped (tiling_of s))
  pub fits : Fits tile
  pub same_width : tile.width ≡ (tile_now (tiling_of s)).width
  pub same_height : tile.height ≡ (tile_now (tiling_of s)).height
  pub grid : WindowPatchesGrid cells with_cells padded (image_of s) (tile_now (tiling_of s)) tile
  pub still_fits : WindowKeepsFit cells with_cells padded (image_of s) (tile_now (tiling_of s)) tile
  pub outside : WindowKeepsOutside cells with_cells padded (image_of s) (tile_now (tiling_of s)) tile
