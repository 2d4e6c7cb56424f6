-- Images whose columns are rows: transposed, or turned by a quarter or three quarters.
use Rattle.std.specs.Prelude.{ℕ, ◌-◌, Bool, true, false}
use Rattle.image_model.specs.Grid.{Grid, grid}
use Rattle.image_turns.specs.declared.turning.Crossing.{Crossing}
use Rattle.image_turns.specs.declared.turning.Crossing.TheVariants.{Across, Right, Left}

-- the column of the source whose pixel column x of row y shows, where the source has so many columns
abbrev pub source_column : Crossing → ℕ → ℕ → ℕ → ℕ
source_column Across width x y = y
source_column Right width x y = y
source_column Left width x y = width - 1 - y

-- its row, where the source has so many rows
abbrev pub source_row : Crossing → ℕ → ℕ → ℕ → ℕ
source_row Across height x y = x
source_row Right height x y = height - 1 - x
source_row Left height x y = x

-- the grid whose columns are rows
abbrev pub quartered : {T : Type 0} → Crossing → Grid T → Grid T
quartered crossing g = grid g.height g.width (λ x y. g.pixel (source_column crossing g.width x y) (source_row crossing g.height x y))

-- the first of so many rows of a source of this height that the columns from one on show
abbrev pub first_row : Crossing → ℕ → ℕ → ℕ → ℕ
first_row Across height left width = left
first_row Right height left width = height - left - width
first_row Left height left width = left

-- and the first of so many columns of a source of this width that the rows from one on show
abbrev pub first_column : Crossing → ℕ → ℕ → ℕ → ℕ
first_column Across width top height = top
first_column Right width top height = top
first_column Left width top height = width - top - height

-- whether the rows of a block are read from the last one on, before it is transposed
abbrev pub reads_back : Crossing → Bool
reads_back Across = false
reads_back Right = true
reads_back Left = false

-- whether they are written from the last one on, after that
abbrev pub writes_back : Crossing → Bool
writes_back Across = false
writes_back Right = false
writes_back Left = true
