-- Windows of an image, paths of nested windows, and the cells of the parent that a window has.
use Rattle.std.specs.Prelude.{ℕ, ◌+◌, ◌-◌, ◌*◌, ◌≤◌, Bool, ◌&&◌, ◌||◌, ◌==◌, nat_le, if◌then◌else◌, Option, Some, None, List, [], ◌∷◌, ◌++◌, take, drop, length, sum_by}
use Rattle.std.specs.Option.{option_map}
use Rattle.image_model.specs.Layout.{Layout, layout}
use Rattle.image_model.specs.Grid.{Grid, view}

-- ---- one window

-- a corner and a size
pub record Window : Type 0 where
  pub left : ℕ
  pub top : ℕ
  pub width : ℕ
  pub height : ℕ

-- the window of this corner and this size
abbrev pub window : ℕ → ℕ → ℕ → ℕ → Window
window left top width height = record { left = left; top = top; width = width; height = height }

-- the window is inside a size: empty ones at the right and lower edge are too
abbrev pub IsInside : ℕ → ℕ → Window → Type 0
IsInside width height w = (w.left + w.width ≤ width) × (w.top + w.height ≤ height)

-- the same as a test
abbrev pub is_inside : ℕ → ℕ → Window → Bool
is_inside width height w = nat_le (w.left + w.width) width && nat_le (w.top + w.height) height

-- the view through a window
abbrev pub window_view : {T : Type 0} → Grid T → Window → Grid T
window_view g w = view g w.left w.top w.width w.height

-- ---- the stretch of the parent's cells that a window has

-- some cells, one after the other: where they begin and how many they are
pub record Stretch : Type 0 where
  pub start : ℕ
  pub len : ℕ

-- whether a window has no place
abbrev pub is_empty : Window → Bool
is_empty w = (w.width == 0) || (w.height == 0)

-- a window's cells begin at its corner; an empty window has no corner
abbrev pub window_start : ℕ → Window → ℕ
window_start stride w = if is_empty w then 0 else stride * w.top + w.left

-- exact: up to the window's last pixel
abbrev pub exact_len : ℕ → Window → ℕ
exact_len stride w = if is_empty w then 0 else stride * (w.height - 1) + w.width

-- padded: whole strides where so many cells of the parent have them, and otherwise exact
abbrev pub padded_len : ℕ → ℕ → Window → ℕ
padded_len count stride w = if is_empty w then 0 else (if nat_le (stride * w.top + w.left + stride * w.height) count then stride * w.height else stride * (w.height - 1) + w.width)

-- the cells from the window's corner to its last pixel
abbrev pub exact_stretch : ℕ → Window → Stretch
exact_stretch stride w = record { start = window_start stride w; len = exact_len stride w }

-- whole strides from the window's corner where the parent has them, and otherwise the exact stretch
abbrev pub padded_stretch : ℕ → ℕ → Window → Stretch
padded_stretch count stride w = record { start = window_start stride w; len = padded_len count stride w }

-- the cells of a stretch
abbrev pub stretch_cells : {T : Type 0} → List T → Stretch → List T
stretch_cells cells s = take s.len (drop s.start cells)

-- the list with other cells in place of a stretch
abbrev pub with_stretch {ℓ} : {A : Type ℓ} → List A → Stretch → List A → List A
with_stretch cells s others = take s.start cells ++ (others ++ drop (s.start + s.len) cells)

-- a window as a layout of its own: the exact cells, its size and its parent's stride
abbrev pub exact_window : {T : Type 0} → Layout T → Window → Layout T
exact_window l w = layout (stretch_cells l.cells (exact_stretch l.stride w)) w.width w.height l.stride

-- the same with whole strides where the parent has them
abbrev pub padded_window : {T : Type 0} → Layout T → Window → Layout T
padded_window l w = layout (stretch_cells l.cells (padded_stretch (length l.cells) l.stride w)) w.width w.height l.stride

-- the stretch of a window: whole strides where the parent is padded and has them, and otherwise the exact one
abbrev pub window_stretch : Bool → ℕ → ℕ → Window → Stretch
window_stretch padded count stride w = if padded then padded_stretch count stride w else exact_stretch stride w

-- the window with that stretch
abbrev pub window_layout : {T : Type 0} → Bool → Layout T → Window → Layout T
window_layout padded l w = if padded then padded_window l w else exact_window l w

-- a stretch is within so many cells
abbrev pub IsWithin : ℕ → Stretch → Type 0
IsWithin count s = s.start + s.len ≤ count

-- ---- paths: each window is inside the one before it

-- the number, from 0, of the first window that is not inside the size before it
abbrev pub first_outside : ℕ → ℕ → List Window → Option ℕ
first_outside width height [] = None
first_outside width height (w ∷ path) = if is_inside width height w then option_map (λ n. n + 1) (first_outside w.width w.height path) else Some 0

-- the column of a path's corner is the sum of the columns of its corners
abbrev pub corner_left : List Window → ℕ
corner_left path = sum_by (λ w. w.left) path

-- the row of a path's corner is the sum of their rows
abbrev pub corner_top : List Window → ℕ
corner_top path = sum_by (λ w. w.top) path

-- the width of a path is that of its last window, or the width before it
abbrev pub path_width : ℕ → List Window → ℕ
path_width width [] = width
path_width width (w ∷ path) = path_width w.width path

-- the height of a path is that of its last window, or the height before it
abbrev pub path_height : ℕ → List Window → ℕ
path_height height [] = height
path_height height (w ∷ path) = path_height w.height path

-- the window that a path leads to: its size at its corner
abbrev pub path_window : ℕ → ℕ → List Window → Window
path_window width height path = window (corner_left path) (corner_top path) (path_width width path) (path_height height path)

-- the view through a path is the view through the window that it leads to
abbrev pub path_view : {T : Type 0} → Grid T → List Window → Grid T
path_view g path = window_view g (path_window g.width g.height path)

-- a stretch of a stretch, as one of the whole list
abbrev pub stretch_within : Stretch → Stretch → Stretch
stretch_within outer inner = record { start = outer.start + inner.start; len = inner.len }

-- what is left of a stretch when each window, one after the other, takes its padded stretch of the one before
abbrev pub path_stretch : ℕ → Stretch → List Window → Stretch
path_stretch stride s [] = s
path_stretch stride s (w ∷ path) = path_stretch stride (stretch_within s (padded_stretch s.len stride w)) path

-- all cells of a list
abbrev pub whole : {T : Type 0} → List T → Stretch
whole cells = record { start = 0; len = length cells }

-- the window that a path leads to as a layout of its own, its cells taken window by window
abbrev pub path_layout : {T : Type 0} → Layout T → List Window → Layout T
path_layout l path = layout (stretch_cells l.cells (path_stretch l.stride (whole l.cells) path)) (path_width l.width path) (path_height l.height path) l.stride
