-- Sums of the pixels of a grid.
use Rattle.std.specs.Prelude.{ℕ, ◌+◌, Option, Some, sum}
use Rattle.image_model.specs.Grid.{Grid, view}
use Rattle.image_model.specs.Rows.{grid_pixels}

-- the sum of the pixels of the first columns in the first rows
unfoldable pub area_sum : Grid ℕ → ℕ → ℕ → ℕ
area_sum g columns lines = sum (grid_pixels (view g 0 0 columns lines))

-- the sum of the first pixels of row y
unfoldable pub line_sum : Grid ℕ → ℕ → ℕ → ℕ
line_sum g columns y = sum (grid_pixels (view g 0 y columns 1))

-- what a place of the summed areas shows: the sum of the pixels up to its column in the rows up to its own
abbrev pub area_at : Grid ℕ → ℕ → ℕ → Option ℕ
area_at g x y = Some (area_sum g (x + 1) (y + 1))
