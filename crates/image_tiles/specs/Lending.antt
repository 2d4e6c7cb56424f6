-- What lending a tile leaves.
use Rattle.std.specs.Prelude.{List, ◌≡◌, ◌<◌, [], ◌∷◌, Bool, if◌then◌else◌, Option, Some, None}
use Rattle.std.specs.Borrow.{MutBor, GName}
use mathlib.Core.Option as maybe
use Rattle.image_model.specs.Layout.{Fits, is_fitting}
use Rattle.image_model.specs.Windows.{Window, Stretch, IsInside, window_view, window_layout}
use Rattle.imgref.specs.declared.img.Img.{Img}
use Rattle.imgref.specs.Image.{buf_of, width_of, height_of, grid_by, layout_by, mut_grid, mut_layout, with_window}
use Rattle.imgref.specs.Written.{WindowPatchesGrid, WindowKeepsOutside, WindowKeepsFit, WindowKeepsContainer}
use Rattle.image_tiles.specs.declared.tiles.TileCursor.{TileCursor}
use Rattle.image_tiles.specs.declared.tiling.Tiling.{Tiling}
use Rattle.image_tiles.specs.Tiling.{windows_left, tile_now, stepped}

module _ {C : Type 0} where
  -- the image that a cursor holds
  abbrev pub image_of : TileCursor C → Img C
  image_of s = s.img

  -- the windows of its tiles
  abbrev pub tiling_of : TileCursor C → Tiling
  tiling_of s = s.tiling

  module _ {T : Type 0} (cells : C → List T) where
    -- the tiles that are left in a cursor: an image that doesn't fit has no tile
    abbrev pub tiles_left : TileCursor C → List Window
    tiles_left s = if is_fitting (layout_by cells s.img) then windows_left s.tiling else []

    -- after one more tile, with what was left in its cells
    abbrev pub after_tile : (C → Stretch → List T → C) → Bool → TileCursor C → List T → TileCursor C
    after_tile with_cells padded s others = record s { img = with_window cells with_cells padded s.img (tile_now s.tiling) others; tiling = stepped s.tiling }

-- the name under which the cells of the returned image are lent
abbrev pub tile_name : {T : Type 0} → Option (Img (MutBor (List T))) → maybe.Option GName
tile_name (Some i) = maybe.some (buf_of i).ghost_name
tile_name None = maybe.none

-- how an image's container is read and written, a cursor, the windows that are left in it
module _ {C T : Type 0} (cells : C → List T) (with_cells : C → Stretch → List T → C) (padded : Bool) (s : TileCursor C) (before : List Window) where
  -- a tile is the first window that is left: it has a place, it fits, it shows the view, and writes to it reach the image
  pub record IsNext (tile : Img (MutBor (List T))) : Type 0 where
    pub first : before ≡ tile_now s.tiling ∷ windows_left (stepped s.tiling)
    pub inside : IsInside (width_of s.img) (height_of s.img) (tile_now s.tiling)
    pub some_width : 0 < (tile_now s.tiling).width
    pub some_height : 0 < (tile_now s.tiling).height
    pub cells_are : mut_layout tile ≡ window_layout padded (layout_by cells s.img) (tile_now s.tiling)
    pub fits : Fits (mut_layout tile)
    pub shows : mut_grid tile ≡ window_view (grid_by cells s.img) (tile_now s.tiling)
    pub grid : WindowPatchesGrid cells with_cells padded s.img (tile_now s.tiling) (mut_layout tile)
    pub outside : WindowKeepsOutside cells with_cells padded s.img (tile_now s.tiling) (mut_layout tile)
    pub still_fits : WindowKeepsFit cells with_cells padded s.img (tile_now s.tiling) (mut_layout tile)
    pub container : WindowKeepsContainer cells with_cells padded s.img (tile_now s.tiling) (mut_layout tile)

  -- the next one of the tiles that are left, or nothing where no tile is left
  abbrev pub NextTile : Option (Img (MutBor (List T))) → Type 0
  NextTile None = before ≡ []
  NextTile (Some tile) = IsNext tile
