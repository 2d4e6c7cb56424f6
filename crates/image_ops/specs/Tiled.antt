-- Tiles of pixels of several cells.
use Rattle.std.specs.Prelude.{ℕ, ◌<◌}

-- a pixel has so many cells, and a tile so many columns of pixels
pub record AreTiles (cells columns : ℕ) : Type 0 where
  pub size : 0 < cells
  pub tile_width : 0 < columns
