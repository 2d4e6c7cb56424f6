-- Counts of the values of pixels: in a table with a number for each value, and of the places that show one value.
use Rattle.std.specs.Prelude.{ℕ, zero, suc, ◌+◌, ◌==◌, Bool, false, if◌then◌else◌, Option, Some, None, List, map, slice_index}
use Rattle.std.specs.List.{count_by, range_with_len}
use Rattle.std.specs.Option.{option_map_or}
use Rattle.image_model.specs.Grid.{Grid}

-- how many items of a list are v
abbrev pub times : ℕ → List ℕ → ℕ
times v xs = count_by (λ p. p == v) xs

-- how many items are 0, how many are 1, and so on, for so many values
unfoldable pub histogram_of : ℕ → List ℕ → List ℕ
histogram_of values xs = map (λ v. times v xs) (range_with_len 0 values)

-- the counts so far of so many values, with those of the items that are left
unfoldable pub counted : ℕ → List ℕ → List ℕ → List ℕ
counted values counts left = map (λ v. slice_index counts v + times v left) (range_with_len 0 values)

-- ---- places with a value

-- whether this content of a place is the value
abbrev pub is_value : ℕ → Option ℕ → Bool
is_value value None = false
is_value value (Some p) = p == value

-- how many numbers below n pass a test
abbrev pub hits : (ℕ → Bool) → ℕ → ℕ
hits test zero = 0
hits test (suc n) = hits test n + (if test n then 1 else 0)

-- how many places of a size pass a test
abbrev pub place_hits : (ℕ → ℕ → Bool) → ℕ → ℕ → ℕ
place_hits test width zero = 0
place_hits test width (suc n) = place_hits test width n + hits (λ x. test x n) width

-- how many places of a grid show the value
unfoldable pub places_with : ℕ → Grid ℕ → ℕ
places_with value g = place_hits (λ x y. is_value value (g.pixel x y)) g.width g.height

-- how many places of a grid show a pixel that passes a test
unfoldable pub places_where : {T : Type 0} → (T → Bool) → Grid T → ℕ
places_where test g = place_hits (λ x y. option_map_or test (g.pixel x y) false) g.width g.height
