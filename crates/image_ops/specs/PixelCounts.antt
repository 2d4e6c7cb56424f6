-- Counts of the pixels that have a value. A pixel is as many cells as the value, next to one another in a row.
use Rattle.std.specs.Prelude.{ℕ, ◌*◌, ◌/◌, Bool, List, length, take, drop, sum_by, count_by}
use Rattle.std.specs.Cmp.Lexicographic.{pointwise}
use Rattle.std.specs.List.{range_with_len}
use Rattle.image_model.specs.Grid.{Grid}
use Rattle.image_model.specs.Rows.{grid_rows}

-- whether the pixel of a row with this number has the value
abbrev pub has_value : {T : Type 0} → (T → T → Bool) → List T → List T → ℕ → Bool
has_value eq value row x = pointwise eq (take (length value) (drop (x * length value) row)) value

-- how many pixels of a row have it
unfoldable pub times_in_row : {T : Type 0} → (T → T → Bool) → List T → List T → ℕ
times_in_row eq value row = count_by (has_value eq value row) (range_with_len 0 (length row / length value))

-- how many pixels of a grid have it
unfoldable pub times_shown : {T : Type 0} → (T → T → Bool) → List T → Grid T → ℕ
times_shown eq value g = sum_by (times_in_row eq value) (grid_rows g)
