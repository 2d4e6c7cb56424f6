-- What the first pixels of an image become: by its grid, and by the cells that are left in a cursor.
use Rattle.std.specs.Prelude.{ℕ, zero, suc, ◌+◌, ◌*◌, nat_lt, if◌then◌else◌, Bool, true, false, List, [], ◌∷◌, ◌++◌, Some}
use Rattle.std.specs.Borrow.{Fml, RattleType, Array}
use base.Fml.{fex, fsep, feq}
use Rattle.borrow_laws.specs.Endings.{ends_as}
use Rattle.image_model.specs.Grid.{Grid, grid}
use Rattle.image_pixels.specs.Pixels.{cells_left, marks_left, pixels_name}
use Rattle.image_pixels.specs.declared.pixels_mut.PixelsIterMut.{PixelsIterMut}

-- the grid with one value in its first pixels, row by row and from left to right: place (x, y) is number y * width + x
abbrev pub with_first : {T : Type 0} → Grid T → ℕ → T → Grid T
with_first g count value = grid g.width g.height (λ x y. if nat_lt (y * g.width + x) count then Some value else g.pixel x y)

-- the cells with one value in the first marked ones
abbrev pub first_covered : {X : Type 0} → ℕ → List Bool → X → List X → List X
first_covered zero ms v xs = xs
first_covered (suc n) [] v xs = xs
first_covered (suc n) (m ∷ ms) v [] = []
first_covered (suc n) (true ∷ ms) v (x ∷ xs) = v ∷ first_covered n ms v xs
first_covered (suc n) (false ∷ ms) v (x ∷ xs) = x ∷ first_covered (suc n) ms v xs

-- the final cells of s are some cells followed by those of t; together they are the cells of s with one value in the first pixels
abbrev pub writes_first : (R : RattleType) → ℕ → R.Denot → PixelsIterMut R.Denot → PixelsIterMut R.Denot → Fml
writes_first R n v s t = fex (List R.Denot) (λ done. fsep (feq (List R.Denot) (done ++ cells_left t) (first_covered n (marks_left s) v (cells_left s)))
    (ends_as (Array R 0) (Array R 0) (pixels_name s) (pixels_name t) (λ ws. done ++ ws)))
