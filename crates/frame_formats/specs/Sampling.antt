-- What pixels are in chroma samples.
use Rattle.std.specs.Prelude.{ℕ, ◌+◌, ◌/◌, ◌%◌, ◌&&◌, ◌==◌, ◌||◌, Bool, if◌then◌else◌, Option, Some, None}
use Rattle.image_shape.specs.declared.window.Window.{Window}

-- ---- chroma samples

-- how many chroma samples there are for so many pixels
abbrev pub samples : ℕ → ℕ → ℕ
samples pixels step = pixels / step + (if pixels % step == 0 then 0 else 1)

-- whether pixels from a whole sample on go by whole samples, or end where the frame ends
abbrev pub ends_on_sample : ℕ → ℕ → ℕ → ℕ → Bool
ends_on_sample step pixels start count = (count % step == 0) || (start + count == pixels)

-- the window of chroma samples under a window of a frame of this size, where its edges are theirs or the frame's
unfoldable pub window_under : ℕ → ℕ → ℕ → ℕ → Window → Option Window
window_under x y width height w =
    if (w.left % x == 0) && ((w.top % y == 0) && (ends_on_sample x width w.left w.width && ends_on_sample y height w.top w.height))
    then Some (record { left = w.left / x; top = w.top / y; width = samples w.width x; height = samples w.height y }) else None

-- a number of pixels as one of samples
abbrev pub exact_samples : ℕ → ℕ → Option ℕ
exact_samples step pixels = if pixels % step == 0 then Some (pixels / step) else None

-- a window of this size at another corner
abbrev pub at_corner : Window → ℕ → ℕ → Window
at_corner w left top = record { left = left; top = top; width = w.width; height = w.height }
