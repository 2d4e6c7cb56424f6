-- Which cells are pixels: a mark for each cell, and what the marks choose.
use Rattle.std.specs.Prelude.{ℕ, zero, suc, ◌-◌, ◌==◌, if◌then◌else◌, Bool, true, false, List, [], ◌∷◌, ◌++◌, replicate}

-- for each following row the padding before it, and then the row
abbrev pub rows_from : ℕ → ℕ → ℕ → List Bool
rows_from zero width pad = []
rows_from (suc n) width pad = replicate pad false ++ (replicate width true ++ rows_from n width pad)

-- the pixels that are left in a row, and then the following rows
abbrev pub marks : ℕ → ℕ → ℕ → ℕ → List Bool
marks remaining rows width pad = replicate remaining true ++ rows_from rows width pad

-- how many pixels the first row of a size has
abbrev pub first_row : ℕ → ℕ → ℕ
first_row width height = if height == 0 then 0 else width

-- how many rows come after the first one: 0 where there is no column
abbrev pub rows_after : ℕ → ℕ → ℕ
rows_after width height = if width == 0 then 0 else height - 1

-- the marks of a size at a stride
abbrev pub marks_of : ℕ → ℕ → ℕ → List Bool
marks_of width height stride = marks (first_row width height) (rows_after width height) width (stride - width)

-- the marked cells
abbrev pub pick : {X : Type 0} → List Bool → List X → List X
pick [] xs = []
pick (m ∷ ms) [] = []
pick (true ∷ ms) (x ∷ xs) = x ∷ pick ms xs
pick (false ∷ ms) (x ∷ xs) = pick ms xs

-- how many cells are skipped before the next pixel
abbrev pub skipped : ℕ → ℕ → ℕ
skipped zero pad = pad
skipped (suc n) pad = 0
