-- The boxes of a tracker's list, and which pixels they touch.
use Rattle.std.specs.Prelude.{◌≡◌, ℕ, ◌<◌, ◌≤◌, ◌+◌, ◌-◌, ◌*◌, ◌==◌, ◌&&◌, Bool, true, false, nat_le, if◌then◌else◌, Option, Some, None, ◌≢◌, ◌↔◌, ◌/◌, ◌^◌, not, nat_lt, IsTrue, List, [], ◌∷◌, ◌++◌, length, reverse}
use Rattle.std.specs.Option.{option_map}
use Rattle.image_shape.specs.declared.window.Window.{Window}
use Rattle.frame_texts.specs.Digits.{worth_of}
use Rattle.std.specs.List.{list_all}
use Rattle.std.specs.Str.Lines.{strip_carriage_return}
use Rattle.texts.specs.Parts.{parts_of}
use Rattle.texts.specs.Reading.{◌>>=◌, number_of, first_of_parts, is_nil}
use Rattle.frame_texts.specs.Lines.{is_white, uncommented}
use Rattle.frame_texts.specs.declared.boxes.Decimal.{Decimal}
use Rattle.frame_texts.specs.declared.boxes.Tracked.{Tracked}

-- the pixel is in the window
abbrev pub Has : Window → ℕ → ℕ → Type 0
Has w x y = ((w.left ≤ x) × (x < w.left + w.width)) × ((w.top ≤ y) × (y < w.top + w.height))

-- ---- numbers

-- a field without the white space before it
abbrev pub without_white : List ℕ → List ℕ
without_white [] = []
without_white (b ∷ bs) = if is_white b then without_white bs else b ∷ bs

-- a line without the white space at its end
abbrev pub ended : List ℕ → List ℕ
ended line = reverse (without_white (reverse line))

-- what one to twenty digits after a point are worth, in units of which a pixel has 10 ^ 20
abbrev pub part_of : List ℕ → Option ℕ
part_of = worth_of 10000000000000000000 20

-- the same of what is left between points: there may be nothing
abbrev pub part_in : List (List ℕ) → Option ℕ
part_in [] = Some 0
part_in (digits ∷ parts) = if is_nil parts then part_of digits else None

-- a number without its sign: at most the greatest size of a frame, with its fraction
unfoldable pub unsigned_in : Bool → List (List ℕ) → Option Decimal
unsigned_in minus parts = do
  whole ← first_of_parts number_of parts
  part ← part_in whole.1
  if nat_le whole.0 4294967295 then Some (record { minus = minus; whole = whole.0; part = part }) else None

abbrev pub signed_of : List ℕ → Option Decimal
signed_of [] = None
signed_of (b ∷ bs) = if b == 45 then unsigned_in true (parts_of 46 bs) else unsigned_in false (parts_of 46 (b ∷ bs))

abbrev pub decimal_of : List ℕ → Option Decimal
decimal_of field = signed_of (without_white field)

-- the number of a frame, from 1
abbrev pub counted : Option ℕ → Option ℕ
counted None = None
counted (Some number) = if nat_lt 0 number then Some number else None

abbrev pub frame_of : List ℕ → Option ℕ
frame_of field = counted (number_of (without_white field))

-- ---- a line

-- a box by the fields of its line: a frame, an identity, a corner and a size, which has no sign
unfoldable pub box_in : List (List ℕ) → Option Tracked
box_in fields = do
  frame ← first_of_parts frame_of fields
  id ← first_of_parts decimal_of frame.1
  left ← first_of_parts decimal_of id.1
  top ← first_of_parts decimal_of left.1
  width ← first_of_parts decimal_of top.1
  height ← first_of_parts decimal_of width.1
  if not width.0.minus && not height.0.minus then Some (record { frame = frame.0; id = id.0; left = left.0; top = top.0; width = width.0; height = height.0 }) else None

abbrev pub box_of : List ℕ → Option Tracked
box_of line = box_in (parts_of 44 line)

-- ---- the cover

-- a number without its sign, in units of which a pixel has 10 ^ 20
abbrev pub units_of : Decimal → ℕ
units_of d = d.whole * 100000000000000000000 + d.part

-- where a number is, in units after the place that is 2 ^ 32 pixels before the frame
abbrev pub place_of : Decimal → ℕ
place_of d = if d.minus then 429496729600000000000000000000 - units_of d else 429496729600000000000000000000 + units_of d

-- how many pixels so many units are at least
abbrev pub pixels_up : ℕ → ℕ
pixels_up units = (units + 99999999999999999999) / 100000000000000000000

-- a number whose whole part has so many bits: those of a field have 32, and a size of the box around two has 34
pub record IsDecimal (bits : ℕ) (d : Decimal) : Type 0 where
  pub whole : d.whole < 2 ^ bits
  pub part : d.part < 100000000000000000000

-- a box whose sizes have so many bits: 32 where a line is the box, and 34 for the box around two
pub record IsBox (bits : ℕ) (b : Tracked) : Type 0 where
  pub left : IsDecimal 32 b.left
  pub top : IsDecimal 32 b.top
  pub width : IsDecimal bits b.width
  pub height : IsDecimal bits b.height

-- the first pixel that has a part of what begins there and is so long, and how many such pixels there are; pixels count from 2 ^ 32 before the frame
abbrev pub side_of : Decimal → Decimal → ℕ × ℕ
side_of start extent = (place_of start / 100000000000000000000, pixels_up (place_of start + units_of extent) - place_of start / 100000000000000000000)

abbrev pub window_by : ℕ × ℕ → ℕ × ℕ → Window
window_by across down = record { left = across.0; top = down.0; width = across.1; height = down.1 }

abbrev pub window_of_box : Tracked → Window
window_of_box b = window_by (side_of b.left b.width) (side_of b.top b.height)

-- ---- which pixels a box touches

-- the pixel of this number, from 2 ^ 32 before the frame, has a part of what begins there and is so long
abbrev pub is_touched : Decimal → Decimal → ℕ → Bool
is_touched start extent x = nat_lt (place_of start) ((x + 1) * 100000000000000000000) && nat_lt (x * 100000000000000000000) (place_of start + units_of extent)

abbrev pub Touches : Tracked → ℕ → ℕ → Type 0
Touches b x y = IsTrue (is_touched b.left b.width x) × IsTrue (is_touched b.top b.height y)

-- the pixels of the window are those that the box touches
abbrev pub TouchesExactly : Tracked → Window → Type 0
TouchesExactly b w = (x y : ℕ) → Touches b x y ↔ Has w x y

-- ---- all lines

-- what a line adds: its box, or nothing where it has no word
abbrev pub boxes_by : Option Tracked → List ℕ → Option (List Tracked)
boxes_by (Some b) line = Some (b ∷ [])
boxes_by None line = if list_all is_white line then Some [] else None

-- a line without its end, its comment and the white space before them
abbrev pub box_text : List ℕ → List ℕ
box_text line = ended (uncommented (strip_carriage_return line))

abbrev pub line_boxes : List ℕ → Option (List Tracked)
line_boxes line = boxes_by (box_of (box_text line)) (box_text line)

-- a line is a box: what it becomes needs memory
abbrev pub IsBoxLine : List ℕ → Type 0
IsBoxLine line = box_of (box_text line) ≢ None

-- the boxes so far with the one that a line adds, and with those of all lines
abbrev pub with_box : List Tracked → List ℕ → Option (List Tracked)
with_box old line = option_map (λ more. old ++ more) (line_boxes line)

abbrev pub with_boxes : List Tracked → List (List ℕ) → Option (List Tracked)
with_boxes old [] = Some old
with_boxes old (line ∷ lines) = with_box old line >>= λ new. with_boxes new lines

-- the boxes that the lines of a text are, in their order: each line with a word is one
abbrev pub each_box : List ℕ → Option (List Tracked)
each_box text = with_boxes [] (parts_of 10 text)

-- each line with a word is a box, and there is one: what it becomes needs memory
pub record HasBoxes (text : List ℕ) : Type 0 where
  pub boxes : List Tracked
  pub are : each_box text ≡ Some boxes
  pub some : 0 < length boxes
