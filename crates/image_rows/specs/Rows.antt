-- What a contract sees of a row iterator: the rows that are left, and how writes reach the buffer.
use Rattle.std.specs.Prelude.{◌≡◌, ℕ, ◌+◌, ◌-◌, ◌*◌, ◌^◌, ◌<◌, List, ◌++◌, length, All, take, drop, Option, Some, None}
use Rattle.std.specs.Borrow.{MutBor, GName, Fml, RattleType, ftrue, follows_both, Array}
use Rattle.std.specs.Iterator.{YieldsFirstMut, YieldsLastMut}
use Rattle.image_model.specs.Layout.{Layout, layout}
use Rattle.image_model.specs.Grid.{grid_of}
use Rattle.image_model.specs.Rows.{rows as rows_of, row_count, grid_rows}
use Rattle.image_shape.specs.declared.ends.End.{End}
use Rattle.image_shape.specs.declared.ends.End.TheVariants.{First, Last}
use Rattle.image_shape.specs.declared.spacing.Spacing.{Spacing}
use Rattle.image_shape.specs.Spacing.{without}
use Rattle.image_rows.specs.declared.reading.RowsIter.{RowsIter}
use Rattle.image_rows.specs.declared.writing.RowsIterMut.{RowsIterMut}

module _ {T : Type 0} where
  -- ---- the two sides of a cell

  -- the cells on that side of cell n
  abbrev pub near : End → ℕ → List T → List T
  near First n cells = take n cells
  near Last n cells = drop n cells

  -- the cells on the other side of it
  abbrev pub far : End → ℕ → List T → List T
  far First n cells = drop n cells
  far Last n cells = take n cells

  -- some cells, put at that end of others
  abbrev pub beside : End → List T → List T → List T
  beside First some others = some ++ others
  beside Last some others = others ++ some

  -- what is dropped with the row at that end: the cells before the first row, or after the last
  abbrev pub let_go : End → Spacing → List T → List T
  let_go First s cells = take s.skip cells
  let_go Last s cells = drop s.width (drop (s.skip + (s.count - 1) * s.stride) cells)

  -- ---- what an iterator holds

  -- these are all rows of a layout and of its grid, from top to bottom: a number below 2^64, each as long as the layout is wide
  pub record AreRows (l : Layout T) (xs : List (List T)) : Type 0 where
    pub rows : xs ≡ rows_of l
    pub grid : xs ≡ grid_rows (grid_of l)
    pub count : length xs ≡ row_count l.width l.height
    pub countable : length xs < 2 ^ 64
    pub lengths : All (λ row. length row ≡ l.width) xs

  -- the rows that are left in an iterator for reading: those of the cells that it still holds
  unfoldable pub refs_left : RowsIter T → List (List T)
  refs_left s = rows_of (layout s.cells.now s.width s.count s.stride)

  -- the cells that an iterator still holds, for writing
  abbrev pub cells_left : RowsIterMut T → List T
  cells_left s = s.cells.now

  -- the borrow of these cells
  abbrev pub rows_name : RowsIterMut T → GName
  rows_name s = s.cells.ghost_name

  -- where the rows are in these cells
  abbrev pub spacing_left : RowsIterMut T → Spacing
  spacing_left s = s.spacing

  -- the rows that are left
  unfoldable pub muts_left : RowsIterMut T → List (List T)
  muts_left s = rows_of (layout (drop s.spacing.skip (cells_left s)) s.spacing.width s.spacing.count s.spacing.stride)

  -- ---- how a row is split off

  -- the cells of s, of which the row and those that are kept may have changed
  abbrev pub put_back : End → RowsIterMut T → List T → List T → List T
  put_back end s row kept = beside end (beside end (let_go end (spacing_left s) (cells_left s)) row) kept

  -- the row at that end is returned, and the others are left
  abbrev pub Yields : End → RowsIterMut T → Option (MutBor (List T)) → RowsIterMut T → Type 0
  Yields First s row t = YieldsFirstMut muts_left s row t
  Yields Last s row t = YieldsLastMut muts_left s row t

  -- the cells are those dropped, the row's, and those kept; where there is no row nothing changes
  abbrev pub Moves : End → RowsIterMut T → Option (MutBor (List T)) → RowsIterMut T → Type 0
  Moves end s None t = t ≡ s
  Moves end s (Some row) t = (cells_left s ≡ put_back end s row.now (cells_left t)) × (spacing_left t ≡ without end 1 (spacing_left s))

-- the final cells of s: those dropped, the row's final cells, and the final cells of t
abbrev pub hands_on : (R : RattleType) → End → RowsIterMut R.Denot → Option (MutBor (List R.Denot)) → RowsIterMut R.Denot → Fml
hands_on R end s None t = ftrue
hands_on R end s (Some row) t = follows_both (Array R 0) (Array R 0) (Array R 0) (rows_name s) row.ghost_name (rows_name t) (put_back end s)
