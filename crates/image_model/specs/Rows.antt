-- Rows and joined rows, tabulated from places: of a layout and of a grid.
use Rattle.std.specs.Prelude.{ℕ, ◌==◌, if◌then◌else◌, Option, List, map}
use Rattle.std.specs.List.{filter_map, flat_map, range_with_len}
use Rattle.image_model.specs.Layout.{Layout, pixel}
use Rattle.image_model.specs.Grid.{Grid}

-- row y of a table with so many columns: the content of (0, y), (1, y) and so on to the last column
abbrev pub table_row : {T : Type 0} → (ℕ → ℕ → Option T) → ℕ → ℕ → List T
table_row at width y = filter_map (λ x. at x y) (range_with_len 0 width)

-- how many rows a size has: 0 where there is no column
abbrev pub row_count : ℕ → ℕ → ℕ
row_count width height = if width == 0 then 0 else height

-- the rows of a table from top to bottom
abbrev pub table_rows : {T : Type 0} → (ℕ → ℕ → Option T) → ℕ → ℕ → List (List T)
table_rows at width height = map (table_row at width) (range_with_len 0 (row_count width height))

-- row y of a layout
abbrev pub row : {T : Type 0} → Layout T → ℕ → List T
row l y = table_row (pixel l) l.width y

-- the rows of a layout from top to bottom
abbrev pub rows : {T : Type 0} → Layout T → List (List T)
rows l = table_rows (pixel l) l.width l.height

-- the rows of a layout one after the other
abbrev pub joined_rows : {T : Type 0} → Layout T → List T
joined_rows l = flat_map (λ r. r) (rows l)

-- the pixels of a layout, row by row and from left to right
abbrev pub pixels : {T : Type 0} → Layout T → List T
pixels l = joined_rows l

-- row y of a grid
abbrev pub grid_row : {T : Type 0} → Grid T → ℕ → List T
grid_row g y = table_row g.pixel g.width y

-- the rows of a grid from top to bottom
abbrev pub grid_rows : {T : Type 0} → Grid T → List (List T)
grid_rows g = table_rows g.pixel g.width g.height

-- the rows of a grid one after the other
abbrev pub grid_joined_rows : {T : Type 0} → Grid T → List T
grid_joined_rows g = flat_map (λ r. r) (grid_rows g)

-- the pixels of a grid, row by row and from left to right
abbrev pub grid_pixels : {T : Type 0} → Grid T → List T
grid_pixels g = grid_joined_rows g
