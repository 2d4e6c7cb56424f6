-- What a tiling leaves.
use Rattle.std.specs.Prelude.{ℕ, ◌+◌, ◌*◌, Bool, nat_lt, if◌then◌else◌, List, [], drop}
use Rattle.image_model.specs.Grid.{is_place}
use Rattle.image_model.specs.Windows.{Window}
use Rattle.image_model.specs.Tiles.{tiles, tile}
use Rattle.image_tiles.specs.declared.tiling.Tiling.{Tiling}

-- the size that a tiling covers
abbrev pub tiling_width : Tiling → ℕ
tiling_width t = t.width

abbrev pub tiling_height : Tiling → ℕ
tiling_height t = t.height

-- whether a tile is left
abbrev pub has_tile : Tiling → Bool
has_tile t = is_place t.tile_columns t.tile_rows t.tile_column t.tile_row

-- the windows of a tiling that are left: those from its tile column of its tile row on
unfoldable pub windows_left : Tiling → List Window
windows_left t = if has_tile t then drop (t.tile_row * t.tile_columns + t.tile_column) (tiles t.width t.height t.tile_width t.tile_height) else []

-- the next window of a tiling
abbrev pub tile_now : Tiling → Window
tile_now t = tile t.width t.height t.tile_width t.tile_height t.tile_column t.tile_row

-- whether another tile comes after the next one in its tile row
abbrev pub goes_right : Tiling → Bool
goes_right t = nat_lt (t.tile_column + 1) t.tile_columns

-- a tiling after one more window: at the next tile column, or at the first one of the tile row below
abbrev pub stepped : Tiling → Tiling
stepped t = record t { tile_column = if goes_right t then t.tile_column + 1 else 0; tile_row = if goes_right t then t.tile_row else t.tile_row + 1 }
