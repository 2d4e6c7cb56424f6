-- Grids of stripes: each row has one value, alternately 0 and 1.
use Rattle.std.specs.Prelude.{ℕ, ◌%◌, Some, nat_lt, if◌then◌else◌}
use Rattle.image_model.specs.Grid.{Grid, grid}

-- row y has the value y % 2
unfoldable pub striped : ℕ → ℕ → Grid ℕ
striped width height = grid width height (λ _ y. Some (y % 2))

-- the same in the first n rows of a grid
unfoldable pub striped_upto : ℕ → Grid ℕ → Grid ℕ
striped_upto n g = grid g.width g.height (λ x y. if nat_lt y n then Some (y % 2) else g.pixel x y)
