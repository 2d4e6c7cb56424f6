-- A frame in another size: a window of each plane is kept, or a border is put around it.
use Rattle.std.specs.Prelude.{ℕ, ◌+◌, ◌*◌, ◌^◌, ◌&&◌, ◌==◌, Bool, nat_lt, if◌then◌else◌, Option, Some, None, List, [], ◌∷◌, ◌++◌, take, drop}
use Rattle.image_model.specs.Grid.{Grid, patch}
use Rattle.image_model.specs.Rows.{grid_pixels}
use Rattle.image_model.specs.Windows.{is_inside, window, window_view}
use Rattle.image_shape.specs.Window.{as_window}
use Rattle.image_ops.specs.Repeated.{repeated}
use Rattle.image_planes.specs.Changes.{in_bytes, byte_grid, is_plane}
use Rattle.image_planes.specs.declared.target.Resize.{Resize}
use Rattle.image_planes.specs.declared.target.Resize.TheVariants.{Crop, Pad, Turn}
use Rattle.image_commands.specs.declared.changes.Quarter.{Quarter}
use Rattle.image_commands.specs.declared.changes.Quarter.TheVariants.{Right, Left}
use Rattle.image_turns.specs.Oriented.{oriented}
use Rattle.image_turns.specs.declared.pixel_turning.Orientation.{Orientation}
use Rattle.image_turns.specs.declared.pixel_turning.Orientation.TheVariants.{Right as TurnedRight, Left as TurnedLeft}

-- a turn by a quarter as one of an image
abbrev pub orientation_of : Quarter → Orientation
orientation_of Right = TurnedRight
orientation_of Left = TurnedLeft

-- what the grid of the bytes of pixels of so many bytes becomes: the window's view, a grid of one value with the old grid at a corner, or the grid with its pixels turned
abbrev pub resized : ℕ → Resize → Grid ℕ → Grid ℕ
resized size (Crop w) g = window_view g (in_bytes size w)
resized size (Pad left top width height value) g = patch (repeated (size * width) height (take size value)) (size * left) top g
resized size (Turn quarter width height) g = oriented size (orientation_of quarter) g

-- the new size in pixels
abbrev pub new_width : Resize → ℕ
new_width (Crop w) = w.width
new_width (Pad left top width height value) = width
new_width (Turn quarter width height) = width

abbrev pub new_height : Resize → ℕ
new_height (Crop w) = w.height
new_height (Pad left top width height value) = height
new_height (Turn quarter width height) = height

-- whether it is valid for so many pixels: the window has columns and is inside, the plane is inside its border, or it is turned: it is as wide then as it was high
abbrev pub is_resize_of : ℕ → ℕ → ℕ → Resize → Bool
is_resize_of size width height (Crop w) = nat_lt 0 w.width && is_inside width height (as_window w)
is_resize_of size width height (Pad left top wide high value) = nat_lt (size * wide) (2 ^ 32) && (nat_lt high (2 ^ 32) && is_inside wide high (window left top width height))
is_resize_of size width height (Turn quarter wide high) = wide == height && (high == width && (nat_lt 0 wide && nat_lt (size * wide) (2 ^ 32)))

-- the size of a plane in pixels, how many bytes a pixel has, and the change of the size
pub record Resizing : Type 0 where
  pub size : ℕ
  pub width : ℕ
  pub height : ℕ
  pub resize : Resize

abbrev pub resizing : ℕ → ℕ → ℕ → Resize → Resizing
resizing size width height resize = record { size = size; width = width; height = height; resize = resize }

-- whether there is such a plane, and the change is valid for its size
abbrev pub is_resizing : ℕ → ℕ → ℕ → Resize → Bool
is_resizing size width height resize = is_plane size width height && is_resize_of size width height resize

abbrev pub resizing_for : ℕ → ℕ → ℕ → Resize → Option Resizing
resizing_for size width height resize = if is_resizing size width height resize then Some (resizing size width height resize) else None

-- how many bytes a plane has, before and after
abbrev pub source_len : Resizing → ℕ
source_len r = r.size * r.width * r.height

abbrev pub target_len : Resizing → ℕ
target_len r = r.size * new_width r.resize * new_height r.resize

-- how many bytes all planes have
abbrev pub sources_len : List Resizing → ℕ
sources_len [] = 0
sources_len (r ∷ rs) = source_len r + sources_len rs

abbrev pub targets_len : List Resizing → ℕ
targets_len [] = 0
targets_len (r ∷ rs) = target_len r + targets_len rs

-- the bytes of the plane in its other size
abbrev pub resized_plane : Resizing → List ℕ → List ℕ
resized_plane r cells = grid_pixels (resized r.size r.resize (byte_grid (r.size * r.width) r.height cells))

-- those of each plane, one after the other
abbrev pub resized_planes : List Resizing → List ℕ → List ℕ
resized_planes [] cells = []
resized_planes (r ∷ rs) cells = resized_plane r (take (source_len r) cells) ++ resized_planes rs (drop (source_len r) cells)
