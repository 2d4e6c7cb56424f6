-- Worked turns, computed: what the definitions say of one small image.
use Rattle.std.proofs.Common.{◌≡◌, ◌+◌, Some, [], ◌∷◌, refl}
use Rattle.image_model.specs.Grid.{grid_of}
use Rattle.image_model.specs.Rows.{grid_pixels}
use Rattle.image_model.specs.Tables.{table_upto}
use Rattle.image_model.specs.ByPlace.{mapped_places, zipped}
use Rattle.image_model.specs.Turns.{columns_swapped, mirrored, transposed, turned_right, turned_half, turned_left}
use Rattle.image_model.proofs.Examples.{padded}

-- the image has the rows 1 2 3 and 5 6 7; its first two columns exchanged, its mirror image, and the transposed one
mirrored_pixels :
    (grid_pixels (columns_swapped 0 1 (grid_of padded)) ≡ 2 ∷ 1 ∷ 3 ∷ 6 ∷ 5 ∷ 7 ∷ [])
    × (grid_pixels (mirrored (grid_of padded)) ≡ 3 ∷ 2 ∷ 1 ∷ 7 ∷ 6 ∷ 5 ∷ [])
    × (grid_pixels (transposed (grid_of padded)) ≡ 1 ∷ 5 ∷ 2 ∷ 6 ∷ 3 ∷ 7 ∷ [])
unfolding grid_of columns_swapped mirrored transposed
mirrored_pixels = (refl, refl, refl)

-- turned clockwise, where the first row becomes the last column, by a half, and anticlockwise
turned_pixels :
    (grid_pixels (turned_right (grid_of padded)) ≡ 5 ∷ 1 ∷ 6 ∷ 2 ∷ 7 ∷ 3 ∷ [])
    × (grid_pixels (turned_half (grid_of padded)) ≡ 7 ∷ 6 ∷ 5 ∷ 3 ∷ 2 ∷ 1 ∷ [])
    × (grid_pixels (turned_left (grid_of padded)) ≡ 3 ∷ 7 ∷ 2 ∷ 6 ∷ 1 ∷ 5 ∷ [])
unfolding grid_of turned_right turned_half turned_left
turned_pixels = (refl, refl, refl)

-- the column, twice the row and the pixel, added
mapped_pixels : grid_pixels (mapped_places (λ x y p. x + (y + y) + p) (grid_of padded)) ≡ 1 ∷ 3 ∷ 5 ∷ 7 ∷ 9 ∷ 11 ∷ []
unfolding grid_of mapped_places
mapped_pixels = refl

zipped_pixels : grid_pixels (zipped (λ p q. p + q) (grid_of padded) (mirrored (grid_of padded))) ≡ 4 ∷ 4 ∷ 4 ∷ 12 ∷ 12 ∷ 12 ∷ []
unfolding grid_of mirrored zipped
zipped_pixels = refl

-- the places before column 1 of row 1 have the column, the others the old pixel
pixels_upto : grid_pixels (table_upto (λ x y. Some x) 1 1 (grid_of padded)) ≡ 0 ∷ 1 ∷ 2 ∷ 0 ∷ 6 ∷ 7 ∷ []
unfolding grid_of table_upto
pixels_upto = refl
