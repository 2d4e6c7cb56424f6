-- Images blurred: each pixel that has eight neighbours becomes the mean of the nine.
use Rattle.std.specs.Prelude.{ℕ, ◌-◌, ◌/◌, if◌then◌else◌, Some, sum}
use Rattle.image_model.specs.Grid.{Grid, grid, covers, view}
use Rattle.image_model.specs.Rows.{grid_pixels}

-- the sum of the three pixels of row y from column x on
abbrev pub sum_of_three : Grid ℕ → ℕ → ℕ → ℕ
sum_of_three g x y = sum (grid_pixels (view g x y 3 1))

-- the mean of a pixel and its eight neighbours, rounded down
abbrev pub mean_of_nine : Grid ℕ → ℕ → ℕ → ℕ
mean_of_nine g x y = sum (grid_pixels (view g (x - 1) (y - 1) 3 3)) / 9

-- each place with a neighbour on every side has the mean of one image, every other place the other image's pixel
unfoldable pub blurred : Grid ℕ → Grid ℕ → Grid ℕ
blurred src dst = grid dst.width dst.height (λ x y. if covers 1 1 (dst.width - 2) (dst.height - 2) x y then Some (mean_of_nine src x y) else dst.pixel x y)
