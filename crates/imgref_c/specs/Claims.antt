-- The words of calls by what a caller claims of an image.
use Rattle.std.specs.Prelude.{◌≡◌, ℕ, ◌*◌, List}
use Rattle.image_model.specs.Layout.{layout}
use Rattle.image_model.specs.Grid.{Grid, grid_of}
use Rattle.image_model.specs.Windows.{Window, IsInside}
use Rattle.image_shape.specs.declared.shape.Shape.{Shape}
use Rattle.image_shape.specs.Shape.{shape_width, shape_height, shape_stride}
use Rattle.image_turns.specs.declared.pixel_turning.Orientation.{Orientation}
use Rattle.imgref_c.specs.declared.images.ClaimedShape.{ClaimedShape}
use Rattle.imgref_c.specs.declared.pixels.ClaimedPixels.{ClaimedPixels}
use Rattle.imgref_c.specs.declared.status.Status.{Status}
use Rattle.imgref_c.specs.Status.{code, IsPixelImage, in_cells, window_status, mosaic_status, move_status, pixel_window_status, pixel_mosaic_status, oriented_status, oriented_in_place_status}
use Rattle.imgref_c.specs.Calls.{seen, Writes}

-- ---- windows of an image

-- the status of a call on a window, with so many cells
abbrev pub window_status_of : ClaimedShape → ℕ → Window → Status
window_status_of s count w = window_status count s.width s.height s.stride w

-- of a mosaic of a window
abbrev pub mosaic_status_of : ClaimedShape → ℕ → Window → ℕ → ℕ → Status
mosaic_status_of s count w tile_width tile_height = mosaic_status count s.width s.height s.stride w tile_width tile_height

-- of a move of one window to another
abbrev pub move_status_of : ClaimedShape → ℕ → Window → Window → Status
move_status_of s count from to = move_status count s.width s.height s.stride from to

-- what an image shows at a window
abbrev pub seen_in : {T : Type 0} → ClaimedShape → List T → Window → Grid T
seen_in s cells w = seen s.width s.height s.stride cells w

-- the cells of an image, of which a window was written
abbrev pub WritesIn : {T : Type 0} → Status → ClaimedShape → List T → List T → Window → Grid T → Type 0
WritesIn status s old new w put = Writes (code status) s.width s.height s.stride old new w.left w.top put

-- ---- pixels of several cells, next to one another in a row

-- the status of a call on a window of such pixels
abbrev pub part_status : ClaimedPixels → ℕ → Window → Status
part_status c count w = pixel_window_status c.channels count c.shape.width c.shape.height c.shape.stride w

-- of a call on the tiles of a window
abbrev pub tiled_status : ClaimedPixels → ℕ → Window → ℕ → ℕ → Status
tiled_status c count w tile_width tile_height = pixel_mosaic_status c.channels count c.shape.width c.shape.height c.shape.stride w tile_width tile_height

-- of a call that turns one image into another, and of one that turns it in place
abbrev pub into_status : ClaimedPixels → Orientation → ℕ → ClaimedShape → ℕ → Status
into_status c o count source source_count = oriented_status c.channels o count c.shape.width c.shape.height c.shape.stride source_count source.width source.height source.stride

abbrev pub in_place_status : ClaimedPixels → Orientation → ℕ → Status
in_place_status c o count = oriented_in_place_status c.channels o count c.shape.width c.shape.height c.shape.stride

-- what such an image shows, with so many cells a pixel
abbrev pub shown_by : {T : Type 0} → ℕ → ClaimedShape → List T → Grid T
shown_by channels s cells = grid_of (layout cells (channels * s.width) s.height s.stride)

-- the cells of such an image, of which a window was changed: it shows what this change makes of what it showed
abbrev pub ChangesPart : {T : Type 0} → Status → ClaimedPixels → List T → List T → Window → (Grid T → Grid T) → Type 0
ChangesPart status c old new w change =
    Writes (code status) (c.channels * c.shape.width) c.shape.height c.shape.stride old new (c.channels * w.left) w.top
    (change (seen (c.channels * c.shape.width) c.shape.height c.shape.stride old (in_cells c.channels w)))

-- or all of it was written
abbrev pub WritesAll : {T : Type 0} → Status → ClaimedPixels → List T → List T → Grid T → Type 0
WritesAll status c old new put = Writes (code status) (c.channels * c.shape.width) c.shape.height c.shape.stride old new 0 0 put

-- the shape of the cells of such an image, and the window of cells that a window of pixels is
pub record IsPart (c : ClaimedPixels) (count : ℕ) (w : Window) (shape : Shape) (part : Window) : Type 0 where
  pub image : IsPixelImage c.channels count c.shape.width c.shape.height c.shape.stride
  pub width : shape_width shape ≡ c.channels * c.shape.width
  pub height : shape_height shape ≡ c.shape.height
  pub stride : shape_stride shape ≡ c.shape.stride
  pub window : part ≡ in_cells c.channels w
  pub inside : IsInside (shape_width shape) (shape_height shape) part
