-- The window of a path, taken as its cells and its shape.
use Rattle.std.specs.Prelude.{◌≡◌, List}
use Rattle.image_model.specs.Layout.{Layout, Fits, SameOutside}
use Rattle.image_model.specs.Grid.{grid_of, patch}
use Rattle.image_model.specs.Windows.{Window, Stretch, whole, with_stretch, path_stretch, path_width, path_height, path_view, corner_left, corner_top}
use Rattle.imgref.specs.declared.img.Img.{Img}
use Rattle.imgref.specs.Image.{buf_of, width_of, height_of, stride_of, layout_by, with_all}

-- how the container is read and written, the image, and the path
module _ {C T : Type 0} (cells : C → List T) (with_cells : C → Stretch → List T → C) (i : Img C) (path : List Window) where
  -- the image with other cells in place of those that the path's window has
  abbrev pub with_path : List T → Img C
  with_path others = with_all cells with_cells i (with_stretch (cells (buf_of i)) (path_stretch (stride_of i) (whole (cells (buf_of i))) path) others)

  -- the window of the path as a layout: it fits, it has the path's size, it shows the view, and what is written in it is in the image at the path's corner
  pub record IsNested (m : Layout T) : Type 0 where
    pub fits : Fits m
    pub same_width : m.width ≡ path_width (width_of i) path
    pub same_height : m.height ≡ path_height (height_of i) path
    pub shows : grid_of m ≡ path_view (grid_of (layout_by cells i)) path
    pub grid : (left : List T) → SameOutside m (record m { cells = left })
        → grid_of (layout_by cells (with_path left)) ≡ patch (grid_of (layout_by cells i)) (corner_left path) (corner_top path) (grid_of (record m { cells = left }))
    pub outside : (left : List T) → SameOutside m (record m { cells = left }) → SameOutside (layout_by cells i) (layout_by cells (with_path left))
