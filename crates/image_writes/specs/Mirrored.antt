-- Grids of pixels of several cells, next to one another in a row, that are mirrored.
use Rattle.std.specs.Prelude.{ℕ, ◌+◌, ◌-◌, ◌*◌, ◌/◌, ◌%◌}
use Rattle.image_model.specs.Grid.{Grid, grid}

-- the grid whose rows have their pixels, of so many cells each, in the opposite order
abbrev pub mirrored_by : {T : Type 0} → ℕ → Grid T → Grid T
mirrored_by size g = grid g.width g.height (λ x y. g.pixel ((g.width / size - 1 - x / size) * size + x % size) y)
