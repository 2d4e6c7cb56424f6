-- Where the output has a rectangle of a frame.
use Rattle.std.specs.Prelude.{◌≡◌, ◌≤◌, ◌<◌, ℕ, ◌+◌, ◌-◌, ◌&&◌, Bool, false, min, nat_le, nat_lt, if◌then◌else◌, Option, Some, None}
use Rattle.image_commands.specs.declared.changes.Axes.{Axes}
use Rattle.image_commands.specs.declared.changes.Axes.TheVariants.{Rows, Columns, Both}
use Rattle.image_commands.specs.declared.changes.Quarter.{Quarter}
use Rattle.image_commands.specs.declared.changes.Quarter.TheVariants.{Right, Left}
use Rattle.image_shape.specs.declared.window.Window.{Window}
use Rattle.frame_edits.specs.declared.framing.Framing.{Framing}
use Rattle.frame_edits.specs.declared.framing.Framing.TheVariants.{Crop, Pad, Turn}

abbrev pub window : ℕ → ℕ → ℕ → ℕ → Window
window left top width height = record { left = left; top = top; width = width; height = height }

-- the pixel is in the rectangle
abbrev pub has : Window → ℕ → ℕ → Bool
has w x y = (nat_le w.left x && nat_lt x (w.left + w.width)) && (nat_le w.top y && nat_lt y (w.top + w.height))

-- the rectangle is in a frame of this size, which is a width and a height
pub record IsWithin (w : Window) (size : ℕ × ℕ) : Type 0 where
  pub columns : w.left + w.width ≤ size.0
  pub rows : w.top + w.height ≤ size.1

-- ---- where a rectangle is

-- once a frame of this size is flipped
abbrev pub flipped_in : Axes → ℕ × ℕ → Window → Window
flipped_in Rows size w = window w.left (size.1 - w.top - w.height) w.width w.height
flipped_in Columns size w = window (size.0 - w.left - w.width) w.top w.width w.height
flipped_in Both size w = window (size.0 - w.left - w.width) (size.1 - w.top - w.height) w.width w.height

-- once it is turned
abbrev pub turned_in : Quarter → ℕ × ℕ → Window → Window
turned_in Right size w = window (size.1 - w.top - w.height) w.left w.height w.width
turned_in Left size w = window w.top (size.0 - w.left - w.width) w.height w.width

-- how many of so many pixels from a place on are among those of a crop
abbrev pub common : ℕ → ℕ → ℕ → ℕ → ℕ
common start count other len = min (count - (other - start)) (len - (start - other))

-- what a crop keeps of it
abbrev pub cropped_in : Window → Window → Window
cropped_in kept w = window (w.left - kept.left) (w.top - kept.top) (common w.left w.width kept.left kept.width) (common w.top w.height kept.top kept.height)

-- a sum, or the greatest number where that is less
abbrev pub sum_or_most : ℕ → ℕ → ℕ
sum_or_most a b = min (a + b) 18446744073709551615

-- once the frame is cropped, gets a border or is turned
abbrev pub framed_in : Option Framing → ℕ × ℕ → Window → Window
framed_in None size w = w
framed_in (Some (Crop kept)) size w = cropped_in kept w
framed_in (Some (Pad left top right bottom value)) size w = window (sum_or_most w.left left) (sum_or_most w.top top) w.width w.height
framed_in (Some (Turn quarter)) size w = turned_in quarter size w

-- ---- which pixel of the frame is at a place of the output

abbrev pub before_flip : Axes → ℕ × ℕ → ℕ → ℕ → ℕ × ℕ
before_flip Rows size u v = (u, size.1 - 1 - v)
before_flip Columns size u v = (size.0 - 1 - u, v)
before_flip Both size u v = (size.0 - 1 - u, size.1 - 1 - v)

-- a border has none, and what is outside
abbrev pub before_framing : Option Framing → ℕ × ℕ → ℕ → ℕ → Option (ℕ × ℕ)
before_framing None size u v = Some (u, v)
before_framing (Some (Crop kept)) size u v = if nat_lt u kept.width && nat_lt v kept.height then Some (u + kept.left, v + kept.top) else None
before_framing (Some (Pad left top right bottom value)) size u v = if nat_le left u && nat_le top v then Some (u - left, v - top) else None
before_framing (Some (Turn Right)) size u v = if nat_lt u size.1 then Some (v, size.1 - 1 - u) else None
before_framing (Some (Turn Left)) size u v = if nat_lt v size.0 then Some (size.0 - 1 - v, u) else None

abbrev pub has_at : Window → Option (ℕ × ℕ) → Bool
has_at w None = false
has_at w (Some place) = has w place.0 place.1

-- a flipped rectangle has the pixels that a flip brings there
abbrev pub FlipsPixels : Type 0
FlipsPixels = (axes : Axes) (size : ℕ × ℕ) (w : Window) (u v : ℕ) → IsWithin w size → u < size.0 → v < size.1 → has (flipped_in axes size w) u v ≡ has w (before_flip axes size u v).0 (before_flip axes size u v).1

-- the same of a crop, a border and a turn, where the sums of a border are numbers of the machine
abbrev pub BorderFits : Option Framing → ℕ × ℕ → Type 0
BorderFits None size = Unit {0}
BorderFits (Some (Crop kept)) size = Unit {0}
BorderFits (Some (Pad left top right bottom value)) size = (size.0 + left ≤ 18446744073709551615) × (size.1 + top ≤ 18446744073709551615)
BorderFits (Some (Turn quarter)) size = Unit {0}

abbrev pub FramesPixels : Type 0
FramesPixels = (framing : Option Framing) (size : ℕ × ℕ) (w : Window) (u v : ℕ) → IsWithin w size → BorderFits framing size → has (framed_in framing size w) u v ≡ has_at w (before_framing framing size u v)
