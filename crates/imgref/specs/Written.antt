-- An image after the cells of a window are replaced by others that keep the window's outside.
use Rattle.std.specs.Prelude.{◌≡◌, Bool, List}
use Rattle.image_model.specs.Layout.{Layout, Fits, SameOutside}
use Rattle.image_model.specs.Grid.{grid_of, patch}
use Rattle.image_model.specs.Windows.{Window, Stretch, whole}
use Rattle.imgref.specs.declared.img.Img.{Img}
use Rattle.imgref.specs.Image.{buf_of, grid_by, layout_by, with_window, window_buf}

-- how the container is read and written; the image, the window, and the window's layout
module _ {C T : Type 0} (cells : C → List T) (with_cells : C → Stretch → List T → C) (padded : Bool) (i : Img C) (w : Window) (m : Layout T) where
  -- the window with these cells
  abbrev pub left_with : List T → Layout T
  left_with left = record m { cells = left }

  -- the grid patched with what the window then shows
  abbrev pub WindowPatchesGrid : Type 0
  WindowPatchesGrid = (left : List T) → SameOutside m (left_with left) → grid_by cells (with_window cells with_cells padded i w left) ≡ patch (grid_by cells i) w.left w.top (grid_of (left_with left))

  -- the same outside
  abbrev pub WindowKeepsOutside : Type 0
  WindowKeepsOutside = (left : List T) → SameOutside m (left_with left) → SameOutside (layout_by cells i) (layout_by cells (with_window cells with_cells padded i w left))

  -- it fits
  abbrev pub WindowKeepsFit : Type 0
  WindowKeepsFit = (left : List T) → SameOutside m (left_with left) → Fits (layout_by cells (with_window cells with_cells padded i w left))

  -- and in the container only the cells are new
  abbrev pub WindowKeepsContainer : Type 0
  WindowKeepsContainer = (left : List T) → SameOutside m (left_with left) → window_buf cells with_cells padded i w left ≡ with_cells (buf_of i) (whole (cells (buf_of i))) (cells (window_buf cells with_cells padded i w left))
