-- Images given by a function of the place, and images that a loop over places has written so far, row by row and from left to right.
use Rattle.std.specs.Prelude.{ℕ, Bool, ◌||◌, ◌&&◌, ◌==◌, nat_lt, if◌then◌else◌, Option}
use Rattle.image_model.specs.Grid.{Grid, grid}

-- whether column u of row v comes before column x of row y
abbrev pub is_before : ℕ → ℕ → ℕ → ℕ → Bool
is_before x y u v = nat_lt v y || ((v == y) && nat_lt u x)

-- the grid of this size with these pixels
unfoldable pub table : {T : Type 0} → ℕ → ℕ → (ℕ → ℕ → Option T) → Grid T
table width height f = grid width height f

-- the places before column x of row y have the pixels of f, the others those of a grid
unfoldable pub table_upto : {T : Type 0} → (ℕ → ℕ → Option T) → ℕ → ℕ → Grid T → Grid T
table_upto f x y g = grid g.width g.height (λ u v. if is_before x y u v then f u v else g.pixel u v)
