-- Columns that are exchanged, and images that are mirrored, transposed or turned. A turn is clockwise.
use Rattle.std.specs.Prelude.{ℕ, ◌-◌, ◌==◌, if◌then◌else◌}
use Rattle.image_model.specs.Grid.{Grid, grid}

-- where column u comes from, once columns x and z are exchanged
abbrev pub swapped_column : ℕ → ℕ → ℕ → ℕ
swapped_column x z u = if u == x then z else if u == z then x else u

-- columns x and z are exchanged
unfoldable pub columns_swapped : {T : Type 0} → ℕ → ℕ → Grid T → Grid T
columns_swapped x z g = grid g.width g.height (λ u v. g.pixel (swapped_column x z u) v)

-- the first column is the last one, and so on
unfoldable pub mirrored : {T : Type 0} → Grid T → Grid T
mirrored g = grid g.width g.height (λ u v. g.pixel (g.width - 1 - u) v)

-- columns are rows, and rows are columns
unfoldable pub transposed : {T : Type 0} → Grid T → Grid T
transposed g = grid g.height g.width (λ u v. g.pixel v u)

-- turned by a quarter: the first row is the last column
unfoldable pub turned_right : {T : Type 0} → Grid T → Grid T
turned_right g = grid g.height g.width (λ u v. g.pixel v (g.height - 1 - u))

-- turned by a half: the first row is the last one, from right to left
unfoldable pub turned_half : {T : Type 0} → Grid T → Grid T
turned_half g = grid g.width g.height (λ u v. g.pixel (g.width - 1 - u) (g.height - 1 - v))

-- turned by three quarters: the first row is the first column, from the bottom
unfoldable pub turned_left : {T : Type 0} → Grid T → Grid T
turned_left g = grid g.height g.width (λ u v. g.pixel (g.width - 1 - v) u)
