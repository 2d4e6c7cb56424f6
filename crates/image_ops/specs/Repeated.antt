-- A grid whose rows repeat a pattern of cells.
use Rattle.std.specs.Prelude.{◌≡◌, ℕ, ◌%◌, ◌<◌, List, length, slice_get}
use Rattle.image_model.specs.Grid.{Grid, grid}

-- each row has the pattern from its first column on, again and again
unfoldable pub repeated : {T : Type 0} → ℕ → ℕ → List T → Grid T
repeated width height pattern = grid width height (λ x _. slice_get pattern (x % length pattern))

-- so has a row
pub record IsRepeated {T : Type 0} (pattern old new : List T) : Type 0 where
  pub as_many : length new ≡ length old
  pub each : (x : ℕ) → x < length old → slice_get new x ≡ slice_get pattern (x % length pattern)
