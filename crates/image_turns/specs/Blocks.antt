-- Blocks of cells and of pixels, and images that are read row by row.
use Rattle.std.specs.Prelude.{ℕ, List, ◌+◌, ◌-◌, ◌*◌, ◌/◌, ◌%◌, Bool, true, false, ◌&&◌, ◌||◌, nat_lt, nat_le, if◌then◌else◌}
use Rattle.image_model.specs.Grid.{Grid, grid, grid_of, covers}
use Rattle.image_model.specs.Layout.{layout}

-- where cell k of 256 comes from, once both halves are put together alternately
abbrev pub shuffled_place : ℕ → ℕ
shuffled_place k = k % 2 * 128 + k / 2

-- where it comes from, once columns are rows
abbrev pub across_place : ℕ → ℕ
across_place k = k % 16 * 16 + k / 16

-- the cells of a block as a grid
abbrev pub block_grid : {T : Type 0} → List T → Grid T
block_grid cells = grid_of (layout cells 16 16 16)

-- which of so many rows is read for row y, from the last one on or not
abbrev pub line_read : Bool → ℕ → ℕ → ℕ
line_read true height y = height - 1 - y
line_read false height y = y

-- the grid upside down, or as it is
abbrev pub read_over : {T : Type 0} → Bool → Grid T → Grid T
read_over back g = grid g.width g.height (λ x y. g.pixel x (line_read back g.height y))

-- whether a place is in the block of this size at a corner, or in the one across the diagonal
abbrev pub is_across : ℕ → ℕ → ℕ → ℕ → ℕ → ℕ → Bool
is_across left top width height x y = covers left top width height x y || covers top left height width x y

-- the pixels of both blocks have changed places with those across the diagonal, where each has so many cells next to one another in a row
abbrev pub pixels_crossed_at : {T : Type 0} → ℕ → ℕ → ℕ → ℕ → ℕ → Grid T → Grid T
pixels_crossed_at size left top width height g = grid g.width g.height (λ x y. if is_across left top width height (x / size) y then g.pixel (y * size + x % size) (x / size) else g.pixel x y)

-- so have the pixels of one cell of the first so many columns and rows
abbrev pub corner_crossed : {T : Type 0} → ℕ → Grid T → Grid T
corner_crossed upto g = grid g.width g.height (λ x y. if nat_lt x upto && nat_lt y upto then g.pixel y x else g.pixel x y)

-- whether a place is in the columns from one to another, or across from them, where these columns and rows end together
abbrev pub is_in_strip : ℕ → ℕ → ℕ → ℕ → Bool
is_in_strip from upto x y = nat_lt x upto && nat_lt y upto && (nat_le from x || nat_le from y)

-- such places have changed places with those across the diagonal
abbrev pub strip_crossed : {T : Type 0} → ℕ → ℕ → Grid T → Grid T
strip_crossed from upto g = grid g.width g.height (λ x y. if is_in_strip from upto x y then g.pixel y x else g.pixel x y)
