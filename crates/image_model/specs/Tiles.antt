-- The tiles of a size: the windows that cover it, cut at its right and lower edge.
use Rattle.std.specs.Prelude.{◌≡◌, ℕ, ◌+◌, ◌-◌, ◌*◌, ◌/◌, ◌%◌, ◌<◌, Bool, true, ◌&&◌, IsTrue, List, [], ◌∷◌, map, min, slice_get}
use Rattle.std.specs.Option.{IsSomeAnd}
use Rattle.std.specs.List.{flat_map, range_with_len}
use Rattle.image_model.specs.Grid.{covers}
use Rattle.image_model.specs.Windows.{Window, window, is_inside}

-- how many tiles of one length begin below another
abbrev pub tile_count : ℕ → ℕ → ℕ
tile_count tile len = (len + (tile - 1)) / tile

-- the tile in tile column i of tile row j: its corner is a multiple of the tile size
abbrev pub tile : ℕ → ℕ → ℕ → ℕ → ℕ → ℕ → Window
tile width height tile_width tile_height i j =
    window (i * tile_width) (j * tile_height) (min tile_width (width - i * tile_width)) (min tile_height (height - j * tile_height))

-- tile row j, from left to right
abbrev pub tile_line : ℕ → ℕ → ℕ → ℕ → ℕ → List Window
tile_line width height tile_width tile_height j =
    map (λ i. tile width height tile_width tile_height i j) (range_with_len 0 (tile_count tile_width width))

-- the tiles of a size, tile row by tile row: a size with no place has no tile
abbrev pub tiles : ℕ → ℕ → ℕ → ℕ → List Window
tiles width height tile_width tile_height =
    flat_map (tile_line width height tile_width tile_height) (range_with_len 0 (tile_count tile_height height))

-- whether each window of a list is inside a size
abbrev pub are_inside : ℕ → ℕ → List Window → Bool
are_inside width height [] = true
are_inside width height (w ∷ windows) = is_inside width height w && are_inside width height windows

-- where the tile of column x begins, and in the same way that of a row
abbrev pub tile_start : ℕ → ℕ → ℕ
tile_start tile x = x - x % tile

-- whether column x of row y is in a window
abbrev pub has_place : Window → ℕ → ℕ → Bool
has_place w x y = covers w.left w.top w.width w.height x y

-- column x of row y is in window number k of a list
abbrev pub LiesIn : List Window → ℕ → ℕ → ℕ → Type 0
LiesIn windows x y k = IsSomeAnd (slice_get windows k) (λ w. IsTrue (has_place w x y))

-- column x of row y is in exactly one window of a list, by the window's number
pub record LiesInOne (windows : List Window) (x y : ℕ) : Type 0 where
  pub number : ℕ
  pub there : LiesIn windows x y number
  pub alone : (k : ℕ) → LiesIn windows x y k → k ≡ number

-- each place of a size is in exactly one window of a list
abbrev pub EachPlaceInOne : ℕ → ℕ → List Window → Type 0
EachPlaceInOne width height windows = (x y : ℕ) → x < width → y < height → LiesInOne windows x y
