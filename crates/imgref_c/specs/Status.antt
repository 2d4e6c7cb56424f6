-- The status that a call returns: that of the first test that fails.
use Rattle.std.specs.Prelude.{length, ℕ, ◌+◌, ◌-◌, ◌*◌, ◌^◌, ◌<◌, ◌≤◌, Bool, ◌&&◌, ◌||◌, ◌==◌, nat_le, nat_lt, if◌then◌else◌}
use Rattle.image_model.specs.Layout.{Reaches}
use Rattle.image_model.specs.Grid.{is_place}
use Rattle.image_model.specs.Windows.{Window, window, is_inside}
use Rattle.image_model.specs.Tiles.{tiles}
use Rattle.image_turns.specs.Oriented.{oriented_width, oriented_height}
use Rattle.image_turns.specs.declared.pixel_turning.Orientation.{Orientation}
use Rattle.imgref_c.specs.Turns.{is_turn, turn_by}
use Rattle.imgref_c.specs.declared.status.Status.{Status}
use Rattle.imgref_c.specs.declared.status.Status.TheVariants.{Done, NotAnImage, WindowOutside, SizesDiffer, PlaceOutside, NoTile, NoTurn, TooLarge, NoRoom}

-- its number in the header
abbrev pub code : Status → ℕ
code Done = 0
code NotAnImage = 1
code WindowOutside = 2
code SizesDiffer = 3
code PlaceOutside = 4
code NoTile = 5
code NoTurn = 6
code TooLarge = 7
code NoRoom = 8

-- so many cells are an image of this size and stride
pub record IsImage (count width height stride : ℕ) : Type 0 where
  pub stride_positive : 1 ≤ stride
  pub holds_width : width ≤ stride
  pub width_bound : width < 2 ^ 32
  pub height_bound : height < 2 ^ 32
  pub reaches : Reaches count width height stride

-- the same as a test
unfoldable pub is_image : ℕ → ℕ → ℕ → ℕ → Bool
is_image count width height stride =
    nat_le 1 stride && (nat_le width stride && (nat_lt width (2 ^ 32) && (nat_lt height (2 ^ 32) && ((width == 0) || ((height == 0) || nat_le (stride * (height - 1) + width) count)))))

-- the first test, and where it passes the others
abbrev pub first : Bool → Status → Status → Status
first passes fault others = if passes then others else fault

-- of a call on an image alone
abbrev pub image_status : ℕ → ℕ → ℕ → ℕ → Status
image_status count width height stride = first (is_image count width height stride) NotAnImage Done

-- of a call on the pixel in a column of a row
abbrev pub place_status : ℕ → ℕ → ℕ → ℕ → ℕ → ℕ → Status
place_status count width height stride x y =
    first (is_image count width height stride) NotAnImage (first (is_place width height x y) PlaceOutside Done)

-- of a call on a window
abbrev pub window_status : ℕ → ℕ → ℕ → ℕ → Window → Status
window_status count width height stride w =
    first (is_image count width height stride) NotAnImage (first (is_inside width height w) WindowOutside Done)

-- of a copy of one image into a window of another
abbrev pub copy_status : ℕ → ℕ → ℕ → ℕ → Window → ℕ → ℕ → ℕ → ℕ → Status
copy_status count width height stride w source_count source_width source_height source_stride =
    first (is_image count width height stride) NotAnImage
    (first (is_image source_count source_width source_height source_stride) NotAnImage
    (first (is_inside width height w) WindowOutside
    (first ((w.width == source_width) && (w.height == source_height)) SizesDiffer Done)))

-- of a move of one window to another
abbrev pub move_status : ℕ → ℕ → ℕ → ℕ → Window → Window → Status
move_status count width height stride from to =
    first (is_image count width height stride) NotAnImage
    (first (is_inside width height from && is_inside width height to) WindowOutside
    (first ((from.width == to.width) && (from.height == to.height)) SizesDiffer Done))

-- of a comparison of two images
abbrev pub pair_status : ℕ → ℕ → ℕ → ℕ → ℕ → ℕ → ℕ → ℕ → Status
pair_status count width height stride other_count other_width other_height other_stride =
    first (is_image count width height stride && is_image other_count other_width other_height other_stride) NotAnImage Done

-- of the summed areas of an image, in another one of its size. The sums of so many bytes fit
abbrev pub integral_status : ℕ → ℕ → ℕ → ℕ → ℕ → ℕ → Status
integral_status count width height stride areas_count areas_stride =
    first (is_image count width height stride && is_image areas_count width height areas_stride) NotAnImage
    (first (nat_lt (width * height) (2 ^ 56)) TooLarge Done)

-- of a flood fill from a place on, with so many numbers in its room
abbrev pub flood_status : ℕ → ℕ → ℕ → ℕ → ℕ → ℕ → ℕ → Status
flood_status count width height stride x y room =
    first (is_image count width height stride) NotAnImage
    (first (is_place width height x y) PlaceOutside
    (first (nat_le (width * height) room) NoRoom Done))

-- of the labels of an image's regions, in another image of its size
abbrev pub labels_status : ℕ → ℕ → ℕ → ℕ → ℕ → ℕ → ℕ → Status
labels_status count width height stride labels_count labels_stride room =
    first (is_image count width height stride && is_image labels_count width height labels_stride) NotAnImage
    (first (nat_le (width * height) room) NoRoom Done)

-- of a mosaic of a window
abbrev pub mosaic_status : ℕ → ℕ → ℕ → ℕ → Window → ℕ → ℕ → Status
mosaic_status count width height stride w tile_width tile_height =
    first (is_image count width height stride) NotAnImage
    (first (is_inside width height w) WindowOutside
    (first (nat_lt 0 tile_width && nat_lt 0 tile_height) NoTile Done))

-- ---- pixels of several cells, next to one another in a row

-- so many cells are an image of pixels of 1 to 4 cells, with a size in pixels and a stride in cells
pub record IsPixelImage (channels count width height stride : ℕ) : Type 0 where
  pub some : 1 ≤ channels
  pub few : channels ≤ 4
  pub cells : IsImage count (channels * width) height stride

-- the same as a test
unfoldable pub is_pixel_image : ℕ → ℕ → ℕ → ℕ → ℕ → Bool
is_pixel_image channels count width height stride = nat_le 1 channels && (nat_le channels 4 && is_image count (channels * width) height stride)

-- a window of pixels as one of cells
abbrev pub in_cells : ℕ → Window → Window
in_cells channels w = window (channels * w.left) w.top (channels * w.width) w.height

-- of a call on a window of such pixels
abbrev pub pixel_window_status : ℕ → ℕ → ℕ → ℕ → ℕ → Window → Status
pixel_window_status channels count width height stride w =
    first (is_pixel_image channels count width height stride) NotAnImage (first (is_inside width height w) WindowOutside Done)

-- of a mosaic of a window of such pixels
abbrev pub pixel_mosaic_status : ℕ → ℕ → ℕ → ℕ → ℕ → Window → ℕ → ℕ → Status
pixel_mosaic_status channels count width height stride w tile_width tile_height =
    first (is_pixel_image channels count width height stride) NotAnImage
    (first (is_inside width height w) WindowOutside
    (first (nat_lt 0 tile_width && nat_lt 0 tile_height) NoTile Done))

-- of a call that writes the pixels of one image to another, at other places
abbrev pub oriented_status : ℕ → Orientation → ℕ → ℕ → ℕ → ℕ → ℕ → ℕ → ℕ → ℕ → Status
oriented_status channels o count width height stride source_count source_width source_height source_stride =
    first (is_pixel_image channels count width height stride && is_pixel_image channels source_count source_width source_height source_stride) NotAnImage
    (first ((width == oriented_width o source_width source_height) && (height == oriented_height o source_width source_height)) SizesDiffer Done)

-- of a call that writes the pixels of an image to other places of it
abbrev pub oriented_in_place_status : ℕ → Orientation → ℕ → ℕ → ℕ → ℕ → Status
oriented_in_place_status channels o count width height stride =
    first (is_pixel_image channels count width height stride) NotAnImage
    (first (width == oriented_width o width height) SizesDiffer Done)

-- of a turn in place by so many quarters
abbrev pub turn_in_place_status : ℕ → ℕ → ℕ → ℕ → ℕ → ℕ → Status
turn_in_place_status channels quarters count width height stride =
    first (is_turn quarters) NoTurn (oriented_in_place_status channels (turn_by quarters) count width height stride)

-- of a turn by so many quarters
abbrev pub turn_status : ℕ → ℕ → ℕ → ℕ → ℕ → ℕ → ℕ → ℕ → ℕ → ℕ → Status
turn_status channels quarters count width height stride source_count source_width source_height source_stride =
    first (is_turn quarters) NoTurn
    (oriented_status channels (turn_by quarters) count width height stride source_count source_width source_height source_stride)

-- of a call on two rows of an image of such pixels
abbrev pub rows_status : ℕ → ℕ → ℕ → ℕ → ℕ → ℕ → ℕ → Status
rows_status channels count width height stride y z =
    first (is_pixel_image channels count width height stride) NotAnImage
    (first (nat_lt y height && nat_lt z height) PlaceOutside Done)

-- ---- tiles

-- of a call on the tiles of a size
abbrev pub tiles_status : ℕ → ℕ → ℕ → ℕ → Status
tiles_status width height tile_width tile_height =
    first (nat_lt width (2 ^ 32) && nat_lt height (2 ^ 32)) NotAnImage
    (first (nat_lt 0 tile_width && nat_lt 0 tile_height) NoTile Done)

-- of a call on one tile of a size
abbrev pub tile_status : ℕ → ℕ → ℕ → ℕ → ℕ → Status
tile_status width height tile_width tile_height number =
    first (nat_lt width (2 ^ 32) && nat_lt height (2 ^ 32)) NotAnImage
    (first (nat_lt 0 tile_width && nat_lt 0 tile_height) NoTile
    (first (nat_lt number (length (tiles width height tile_width tile_height))) NoTile Done))
