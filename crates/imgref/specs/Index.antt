-- What an index of an image names, one cell or the window of one row, and the image after a write there.
use Rattle.std.specs.Prelude.{◌≡◌, ℕ, ◌<◌, List, length}
use Rattle.image_model.specs.Layout.{Layout, Fits, SameOutside, cell_of}
use Rattle.image_model.specs.Grid.{patch, uniform, one_row}
use Rattle.image_model.specs.Windows.{Window, Stretch, window, window_start}
use Rattle.imgref.specs.declared.img.Img.{Img}
use Rattle.imgref.specs.Image.{buf_of, width_of, height_of, with_buf, grid_by, layout_by}

-- there is a cell at column x of row y: it may be padding, or below the last row
abbrev pub HasCell : {T : Type 0} → Layout T → ℕ → ℕ → Type 0
HasCell l x y = (x < l.stride) × (cell_of l x y < length l.cells)

-- row y as a window: all columns, one row high
abbrev pub row_window : {T : Type 0} → Layout T → ℕ → Window
row_window l y = window 0 y l.width 1

-- the cell at which row y begins, or 0 where the rows are empty
abbrev pub row_start : {T : Type 0} → Layout T → ℕ → ℕ
row_start l y = window_start l.stride (row_window l y)

-- how a container is read, and how it looks with one other cell or with other cells in place of a stretch
module _ {C T : Type 0} (cells : C → List T) where
  -- the image with another cell at column x of row y
  abbrev pub with_cell_at : (C → ℕ → T → C) → Img C → ℕ → ℕ → T → Img C
  with_cell_at with_cell i x y cell = with_buf i (with_cell (buf_of i) (cell_of (layout_by cells i) x y) cell)

  -- the image with other cells in place of row y
  unfoldable pub with_row : (C → Stretch → List T → C) → Img C → ℕ → List T → Img C
  with_row with_cells i y others = with_buf i (with_cells (buf_of i) (record { start = row_start (layout_by cells i) y; len = width_of i }) others)

  -- ---- what an image shows once one cell has another value

  module _ (with_cell : C → ℕ → T → C) (i : Img C) (x y : ℕ) where
    -- at a place of an image that fits: the grid with that pixel
    abbrev pub PatchesGrid : Type 0
    PatchesGrid = Fits (layout_by cells i) → x < width_of i → y < height_of i → (value : T) → grid_by cells (with_cell_at with_cell i x y value) ≡ patch (grid_by cells i) x y (uniform 1 1 value)

    -- at a place: the same outside
    abbrev pub KeepsOutside : Type 0
    KeepsOutside = x < width_of i → y < height_of i → (value : T) → SameOutside (layout_by cells i) (layout_by cells (with_cell_at with_cell i x y value))

    -- anywhere: it fits where it did
    abbrev pub KeepsFit : Type 0
    KeepsFit = Fits (layout_by cells i) → (value : T) → Fits (layout_by cells (with_cell_at with_cell i x y value))

  -- ---- what an image shows once a row has other pixels, as many as before

  module _ (with_cells : C → Stretch → List T → C) (i : Img C) (y : ℕ) where
    -- the grid with that row
    abbrev pub RowPatchesGrid : Type 0
    RowPatchesGrid = (left : List T) → length left ≡ width_of i → grid_by cells (with_row with_cells i y left) ≡ patch (grid_by cells i) 0 y (one_row left)

    -- the same outside
    abbrev pub RowKeepsOutside : Type 0
    RowKeepsOutside = (left : List T) → length left ≡ width_of i → SameOutside (layout_by cells i) (layout_by cells (with_row with_cells i y left))

    -- and it fits
    abbrev pub RowKeepsFit : Type 0
    RowKeepsFit = (left : List T) → length left ≡ width_of i → Fits (layout_by cells (with_row with_cells i y left))
