-- What a contract sees of an image: its container, its shape and the layout that they make; and the image with other cells.
use Rattle.std.specs.Prelude.{◌≡◌, ℕ, Bool, List, ◌++◌, Vec, length, take, drop}
use Rattle.std.specs.Borrow.{Bor, MutBor}
use Rattle.image_model.specs.Layout.{Layout, Fits, layout}
use Rattle.image_model.specs.Grid.{Grid, grid_of}
use Rattle.image_model.specs.Windows.{Window, Stretch, window_stretch, whole}
use Rattle.image_shape.specs.declared.shape.Shape.{Shape}
use Rattle.imgref.specs.declared.img.Img.{Img}

-- a list as long as a given one: the cells of another list and, where these are too few, the given list's own cells after them
abbrev pub as_many : {T : Type 0} → List T → List T → List T
as_many cells others = take (length cells) others ++ drop (length others) cells

module _ {C : Type 0} where
  -- the container
  abbrev pub buf_of : Img C → C
  buf_of i = i.buf

  -- the size and the stride
  abbrev pub shape_of : Img C → Shape
  shape_of i = record { width = i.width; height = i.height; stride = i.stride; stride_positive = i.stride_positive; holds_width = i.holds_width }

  -- the number of columns
  abbrev pub width_of : Img C → ℕ
  width_of i = i.width

  -- the number of rows
  abbrev pub height_of : Img C → ℕ
  height_of i = i.height

  -- how many cells after the start of a row the next one begins
  abbrev pub stride_of : Img C → ℕ
  stride_of i = i.stride

  -- the image with another container
  abbrev pub with_buf : Img C → C → Img C
  with_buf i buf = record i { buf = buf }

  -- how a container is read
  module _ {T : Type 0} (cells : C → List T) where
    -- the layout of an image whose container has these cells
    abbrev pub layout_by : Img C → Layout T
    layout_by i = layout (cells i.buf) i.width i.height i.stride

    -- and its grid
    abbrev pub grid_by : Img C → Grid T
    grid_by i = grid_of (layout_by i)

    -- the cells that a window takes, with whole strides or up to its last pixel
    abbrev pub stretch_by : Bool → Img C → Window → Stretch
    stretch_by padded i w = window_stretch padded (length (cells i.buf)) (stride_of i) w

    -- how it looks with other cells in place of a stretch
    module _ (with_cells : C → Stretch → List T → C) where
      -- the image with other cells in place of all
      abbrev pub with_all : Img C → List T → Img C
      with_all i others = with_buf i (with_cells (buf_of i) (whole (cells (buf_of i))) others)

      -- the image is as it was except for its cells
      abbrev pub OnlyCellsChange : Img C → Img C → Type 0
      OnlyCellsChange old new = new ≡ with_all old (cells (buf_of new))

      -- the image with the cells that another one has, as many as before
      abbrev pub with_cells_of : Img C → Img C → Img C
      with_cells_of i other = with_all i (as_many (cells (buf_of i)) (cells (buf_of other)))

      -- with all cells that an image may be left with, there are as many as before
      abbrev pub KeepsCount : Img C → Type 0
      KeepsCount i = (left : Img C) → length (cells (buf_of (with_cells_of i left))) ≡ length (cells (buf_of i))

      -- and it fits where it did
      abbrev pub AnyCellsFit : Img C → Type 0
      AnyCellsFit i = (left : Img C) → Fits (layout_by (with_cells_of i left))

      -- the container with other cells in place of those that a window takes
      unfoldable pub window_buf : Bool → Img C → Window → List T → C
      window_buf padded i w others = with_cells (buf_of i) (stretch_by padded i w) others

      -- the image with that container
      abbrev pub with_window : Bool → Img C → Window → List T → Img C
      with_window padded i w others = with_buf i (window_buf padded i w others)

-- the layout of an image that owns its pixels
abbrev pub vec_layout : {T Z : Type 0} → Img (Vec T Z) → Layout T
vec_layout i = layout_by (λ v. v.items) i

-- and its grid
abbrev pub vec_grid : {T Z : Type 0} → Img (Vec T Z) → Grid T
vec_grid i = grid_of (vec_layout i)

-- the layout of an image of borrowed pixels
abbrev pub ref_layout : {T : Type 0} → Img (Bor (List T)) → Layout T
ref_layout i = layout_by (λ s. s.now) i

-- and its grid
abbrev pub ref_grid : {T : Type 0} → Img (Bor (List T)) → Grid T
ref_grid i = grid_of (ref_layout i)

-- the layout of an image of pixels that are borrowed for writing
abbrev pub mut_layout : {T : Type 0} → Img (MutBor (List T)) → Layout T
mut_layout i = layout_by (λ s. s.now) i

-- and its grid
abbrev pub mut_grid : {T : Type 0} → Img (MutBor (List T)) → Grid T
mut_grid i = grid_of (mut_layout i)

-- an image of borrowed pixels still holds the same borrow: a caller that lent it needs this to know what was written
abbrev pub SameBorrow : {T : Type 0} → Img (MutBor (List T)) → Img (MutBor (List T)) → Type 0
SameBorrow old new = (buf_of new).ghost_name ≡ (buf_of old).ghost_name
