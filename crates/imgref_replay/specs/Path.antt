-- What a path of windows leads to.
use Rattle.std.specs.Prelude.{◌≡◌, ℕ, ◌+◌, ◌*◌, ◌<◌, List, Result, Ok, Err}
use Rattle.std.specs.Borrow.{MutBor, GName}
use mathlib.Core.Option as maybe
use Rattle.image_model.specs.Layout.{Layout, Fits}
use Rattle.image_model.specs.Grid.{grid_of}
use Rattle.image_model.specs.Windows.{Window, path_width, path_height, path_stretch, path_layout, path_view, corner_left, corner_top, whole}
use Rattle.image_shape.specs.declared.shape.Shape.{Shape}
use Rattle.image_shape.specs.declared.window.Stretch.{Stretch}
use Rattle.imgref.specs.declared.img.Img.{Img}
use Rattle.imgref.specs.Image.{buf_of}
use Rattle.imgref.specs.Shape.{shape_width, shape_height, shape_stride}
use Rattle.imgref.specs.Window.{as_stretch}

-- in so many cells of a shape a path leads to these cells and this shape: each window, one after the other, takes its own
pub record LeadsTo (count : ℕ) (shape : Shape) (path : List Window) (stretch : Stretch) (inner : Shape) : Type 0 where
  pub cells : as_stretch stretch ≡ path_stretch (shape_stride shape) (record { start = 0; len = count }) path
  pub width : shape_width inner ≡ path_width (shape_width shape) path
  pub height : shape_height inner ≡ path_height (shape_height shape) path
  pub stride : shape_stride inner ≡ shape_stride shape

-- where a path's window has a place, its cells begin at the sum of the corners
abbrev pub BeginsAtCorner : {T : Type 0} → Layout T → List Window → Type 0
BeginsAtCorner l path = 0 < path_width l.width path → 0 < path_height l.height path → (path_stretch l.stride (whole l.cells) path).start ≡ l.stride * corner_top path + corner_left path

-- the window that a path leads to: it has the layout's own cells, from the sum of the corners on, fits, and shows the view
pub record IsPathWindow {T : Type 0} (l : Layout T) (path : List Window) (m : Layout T) : Type 0 where
  pub layout : m ≡ path_layout l path
  pub corner : BeginsAtCorner l path
  pub fits : Fits m
  pub view : grid_of m ≡ path_view (grid_of l) path

-- the name under which the cells of the returned image are lent
abbrev pub window_name : {T : Type 0} → Result (Img (MutBor (List T))) ℕ → maybe.Option GName
window_name (Ok i) = maybe.some (buf_of i).ghost_name
window_name (Err n) = maybe.none
