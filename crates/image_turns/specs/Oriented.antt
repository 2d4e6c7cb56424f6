-- Grids of pixels of several cells, next to one another in a row, that are transposed or turned.
use Rattle.std.specs.Prelude.{ℕ, ◌+◌, ◌-◌, ◌*◌, ◌/◌, ◌%◌, ◌<◌}
use Rattle.image_model.specs.Grid.{Grid, grid}
use Rattle.image_turns.specs.declared.pixel_turning.Orientation.{Orientation}
use Rattle.image_turns.specs.declared.pixel_turning.Orientation.TheVariants.{Transposed, Right, Half, Left}

-- the column of the source whose pixel column x of row y shows, where the source has so many columns
abbrev pub source_column : Orientation → ℕ → ℕ → ℕ → ℕ
source_column Transposed columns x y = y
source_column Right columns x y = y
source_column Half columns x y = columns - 1 - x
source_column Left columns x y = columns - 1 - y

-- its row, where the source has so many rows
abbrev pub source_row : Orientation → ℕ → ℕ → ℕ → ℕ
source_row Transposed rows x y = x
source_row Right rows x y = rows - 1 - x
source_row Half rows x y = rows - 1 - y
source_row Left rows x y = x

-- how wide a size becomes
abbrev pub oriented_width : Orientation → ℕ → ℕ → ℕ
oriented_width Transposed columns rows = rows
oriented_width Right columns rows = rows
oriented_width Half columns rows = columns
oriented_width Left columns rows = rows

-- and how high
abbrev pub oriented_height : Orientation → ℕ → ℕ → ℕ
oriented_height Transposed columns rows = columns
oriented_height Right columns rows = columns
oriented_height Half columns rows = rows
oriented_height Left columns rows = columns

-- the grid whose pixels, of so many cells each, are those of another grid at these places
abbrev pub oriented : {T : Type 0} → ℕ → Orientation → Grid T → Grid T
oriented size o g =
    grid (oriented_width o (g.width / size) g.height * size) (oriented_height o (g.width / size) g.height)
    (λ x y. g.pixel (source_column o (g.width / size) (x / size) y * size + x % size) (source_row o g.height (x / size) y))

-- the cell of a source with this stride from which cell k comes, of the pixels of row y from column `left` on
abbrev pub source_cell : Orientation → ℕ → ℕ → ℕ → ℕ → ℕ → ℕ → ℕ → ℕ
source_cell o size stride columns rows left y k =
    source_row o rows (left + k / size) y * stride + (source_column o columns (left + k / size) y * size + k % size)

-- so many pixels of row y, from column `left` on, come from pixels that have another one after them in their row
abbrev pub AreFollowed : Orientation → ℕ → ℕ → ℕ → ℕ → Type 0
AreFollowed o columns left y count = (x : ℕ) → x < count → source_column o columns (left + x) y + 1 < columns
