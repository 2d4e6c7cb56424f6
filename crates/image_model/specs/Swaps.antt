-- Rows that are exchanged.
use Rattle.std.specs.Prelude.{◌≡◌, ℕ, ◌+◌, ◌<◌, ◌≤◌, ◌==◌, if◌then◌else◌, List, length, slice_get}
use Rattle.image_model.specs.Grid.{Grid, grid}

-- where row v comes from, once rows y and z are exchanged
abbrev pub swapped_row : ℕ → ℕ → ℕ → ℕ
swapped_row y z v = if v == y then z else if v == z then y else v

-- rows y and z are exchanged
unfoldable pub rows_swapped : {T : Type 0} → ℕ → ℕ → Grid T → Grid T
rows_swapped y z g = grid g.width g.height (λ u v. g.pixel u (swapped_row y z v))

-- two stretches of a list that don't overlap are exchanged, and nothing else has changed
pub record StretchesSwapped {T : Type 0} (old new : List T) (first second len : ℕ) : Type 0 where
  pub as_many : length new ≡ length old
  pub first_is : (k : ℕ) → k < len → slice_get new (first + k) ≡ slice_get old (second + k)
  pub second_is : (k : ℕ) → k < len → slice_get new (second + k) ≡ slice_get old (first + k)
  pub before : (k : ℕ) → k < first → slice_get new k ≡ slice_get old k
  pub between : (k : ℕ) → first + len ≤ k → k < second → slice_get new k ≡ slice_get old k
  pub after : (k : ℕ) → second + len ≤ k → slice_get new k ≡ slice_get old k
