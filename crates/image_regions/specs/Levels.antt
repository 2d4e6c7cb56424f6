-- Histogram equalization.
use Rattle.std.specs.Prelude.{ℕ, ◌+◌, ◌*◌, ◌/◌, List, sum, take, max}
use Rattle.image_model.specs.Counts.{histogram_of}
use Rattle.image_model.specs.Grid.{Grid}
use Rattle.image_model.specs.Mapped.{mapped}
use Rattle.image_model.specs.Rows.{grid_pixels}

-- what a value becomes, where each value occurs so often: the part of 255 that the pixels up to this value are of all, rounded down
abbrev pub level : List ℕ → ℕ → ℕ
level counts value = 255 * sum (take (value + 1) counts) / max (sum counts) 1

-- the grid whose pixels are spread by its own histogram
abbrev pub equalized : Grid ℕ → Grid ℕ
equalized g = mapped (level (histogram_of 256 (grid_pixels g))) g
