-- A grid of which each tile shows one pixel: that of its corner.
use Rattle.std.specs.Prelude.{◌≡◌, ℕ, ◌+◌, ◌*◌, ◌/◌, ◌%◌, ◌<◌, List, length, slice_get}
use Rattle.image_model.specs.Grid.{Grid, grid}
use Rattle.image_model.specs.Tiles.{tile_start}

-- each place has the pixel at the corner of its tile
abbrev pub mosaic : {T : Type 0} → ℕ → ℕ → Grid T → Grid T
mosaic tile_width tile_height g = grid g.width g.height (λ x y. g.pixel (tile_start tile_width x) (tile_start tile_height y))

-- each cell of a row is the old one with which its tile begins
pub record IsSpread {T : Type 0} (tile : ℕ) (old new : List T) : Type 0 where
  pub as_many : length new ≡ length old
  pub each : (x : ℕ) → x < length old → slice_get new x ≡ slice_get old (tile_start tile x)

-- ---- pixels of several cells, next to one another in a row

-- the column that column x shows: the same cell of the first pixel of its tile
abbrev pub shown_column : ℕ → ℕ → ℕ → ℕ
shown_column size tile x = tile_start tile (x / size) * size + x % size

-- each pixel of so many cells is the one at the corner of its tile
abbrev pub mosaic_by : {T : Type 0} → ℕ → ℕ → ℕ → Grid T → Grid T
mosaic_by size tile_width tile_height g = grid g.width g.height (λ x y. g.pixel (shown_column size tile_width x) (tile_start tile_height y))

-- each pixel of a row is the old one with which its tile begins
pub record IsSpreadBy {T : Type 0} (size tile : ℕ) (old new : List T) : Type 0 where
  pub as_many : length new ≡ length old
  pub each : (x : ℕ) → x < length old → slice_get new x ≡ slice_get old (shown_column size tile x)
