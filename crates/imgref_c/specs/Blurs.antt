-- Blurs of windows, and the room that they need.
use Rattle.std.specs.Prelude.{◌≡◌, ℕ, ◌*◌, ◌^◌, ◌<◌, ◌&&◌, List, nat_le, nat_lt}
use Rattle.image_model.specs.Grid.{Grid}
use Rattle.image_model.specs.Windows.{Window, exact_len, is_inside}
use Rattle.image_means.specs.Blur.{blurred}
use Rattle.image_shape.specs.declared.samples.SampleBytes.TheVariants.{One}
use Rattle.imgref_c.specs.declared.pixels.ClaimedPixels.{ClaimedPixels}
use Rattle.imgref_c.specs.declared.status.Status.{Status}
use Rattle.imgref_c.specs.declared.status.Status.TheVariants.{Done, NotAnImage, WindowOutside, TooLarge, NoRoom}
use Rattle.imgref_c.specs.Status.{first, in_cells, is_pixel_image}

-- each byte of a pixel of so many becomes the mean of such bytes in the box around the pixel
abbrev pub boxes_of : ℕ → ℕ → ℕ → Grid ℕ → Grid ℕ
boxes_of channels across down g = blurred One channels across down g

-- the copy has the cells from the window's first to its last
abbrev pub copy_room : ℕ → ℕ → Window → ℕ
copy_room channels stride w = exact_len stride (in_cells channels w)

-- and there is a sum for each cell of its rows
abbrev pub sums_room : ℕ → Window → ℕ
sums_room channels w = channels * w.width

-- the status of a blur of a window, with so many bytes for the copy and so many sums
abbrev pub blur_status : ℕ → ℕ → ℕ → ℕ → ℕ → Window → ℕ → ℕ → ℕ → ℕ → Status
blur_status channels count width height stride w across down copy sums =
    first (is_pixel_image channels count width height stride) NotAnImage
    (first (is_inside width height w) WindowOutside
    (first (nat_lt across (2 ^ 15) && nat_lt down (2 ^ 15)) TooLarge
    (first (nat_le (copy_room channels stride w) copy && nat_le (sums_room channels w) sums) NoRoom Done)))

-- the same by what a caller claims
abbrev pub blur_status_of : ClaimedPixels → ℕ → Window → ℕ → ℕ → ℕ → ℕ → Status
blur_status_of c count w across down copy sums = blur_status c.channels count c.shape.width c.shape.height c.shape.stride w across down copy sums

-- room that a refused call was given is as before
pub record KeepsRoom (status : ℕ) (old_copy new_copy old_sums new_sums : List ℕ) : Type 0 where
  pub copy : 0 < status → new_copy ≡ old_copy
  pub sums : 0 < status → new_sums ≡ old_sums
