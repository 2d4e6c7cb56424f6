-- Where the tile with a number is.
use Rattle.std.specs.Prelude.{◌≡◌, ℕ, ◌*◌, ◌/◌, ◌%◌, ◌<◌, Some, slice_get}
use Rattle.image_model.specs.Tiles.{tiles, tile}

-- with so many tiles in a tile row, its tile column and tile row are the remainder and the quotient, and its corner is inside
pub record Numbered (width height tile_width tile_height number columns : ℕ) : Type 0 where
  pub some : 0 < columns
  pub column : number % columns * tile_width < width
  pub line : number / columns * tile_height < height
  pub is : slice_get (tiles width height tile_width tile_height) number ≡ Some (tile width height tile_width tile_height (number % columns) (number / columns))
