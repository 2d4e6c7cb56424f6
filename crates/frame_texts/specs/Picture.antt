-- The head of a picture.
use Rattle.std.specs.Prelude.{◌≡◌, ℕ, ◌-◌, ◌^◌, ◌==◌, ◌||◌, ◌&&◌, Bool, true, false, nat_lt, nat_le, if◌then◌else◌, List, [], ◌∷◌, ◌++◌, Option, Some, None}
use Rattle.texts.specs.Reading.{◌>>=◌}
use Rattle.frame_texts.specs.Digits.{is_digit, with_digit}
use Rattle.frame_texts.specs.Pam.{lines, tuple_depth, lines_pushed, lines_start}
use Rattle.frame_texts.specs.declared.pam.Fields.{Fields}
use Rattle.frame_texts.specs.declared.pam.Lines.{Lines as PamLines}
use Rattle.frame_texts.specs.declared.pam.Place.{Place}
use Rattle.frame_texts.specs.declared.pam.Place.TheVariants.{Ended}
use Rattle.frame_texts.specs.declared.picture.Kind.{Kind as PictureKind}
use Rattle.frame_texts.specs.declared.picture.Kind.TheVariants.{Plain, Pam}
use Rattle.frame_texts.specs.declared.picture.Picture.{Picture}
use Rattle.frame_texts.specs.declared.picture.Head.{Head}
use Rattle.frame_texts.specs.declared.picture.Head.TheVariants.{Start, Letter, Kind, Width, Height, Greatest, Lines}
use Rattle.frame_texts.specs.declared.picture.Scan.{Scan}
use Rattle.frame_texts.specs.declared.picture.Scan.TheVariants.{More, Done, Bad}

abbrev pub picture : ℕ → ℕ → PictureKind → ℕ → Picture
picture width height kind greatest = record { width = width; height = height; kind = kind; greatest = greatest }

-- a blank, or one of TAB, LF, VT, FF and CR
abbrev pub is_white : ℕ → Bool
is_white byte = (byte == 32) || (nat_le 9 byte && nat_le byte 13)

-- what ends a comment
abbrev pub is_line_end : ℕ → Bool
is_line_end byte = (byte == 10) || (byte == 13)

-- a head that goes on, outside a comment
abbrev pub more : Head → Scan
more head = More head false

-- what the greatest value of a sample may be
abbrev pub is_greatest : ℕ → Bool
is_greatest value = nat_lt 0 value && nat_lt value (2 ^ 16)

-- after white space, of which a comment is one: a number ends there, neither size is 0, and the greatest value fits two bytes
abbrev pub after_white : Head → Scan
after_white Start = Bad
after_white Letter = Bad
after_white (Kind colour) = more (Width colour None)
after_white (Width colour None) = more (Width colour None)
after_white (Width colour (Some width)) = if width == 0 then Bad else more (Height colour width None)
after_white (Height colour width None) = more (Height colour width None)
after_white (Height colour width (Some height)) = if height == 0 then Bad else more (Greatest colour width height None)
after_white (Lines l) = Bad
after_white (Greatest colour width height None) = more (Greatest colour width height None)
after_white (Greatest colour width height (Some greatest)) = if is_greatest greatest then Done (picture width height (Plain colour) greatest) else Bad

-- the head with a number, where it is in range
abbrev pub with_number : (Option ℕ → Head) → Option ℕ → Scan
with_number head None = Bad
with_number head (Some number) = more (head (Some number))

-- after a digit
abbrev pub after_digit : Head → ℕ → Scan
after_digit Start digit = Bad
after_digit Letter digit = Bad
after_digit (Kind colour) digit = Bad
after_digit (Lines l) digit = Bad
after_digit (Width colour width) digit = with_number (Width colour) (with_digit width digit)
after_digit (Height colour width height) digit = with_number (Height colour width) (with_digit height digit)
after_digit (Greatest colour width height greatest) digit = with_number (Greatest colour width height) (with_digit greatest digit)

-- after the two bytes of the kind
abbrev pub in_head : Head → ℕ → Scan
in_head head byte =
    if is_white byte then after_white head
    else if byte == 35 then More head true
    else if is_digit byte then after_digit head (byte - 48)
    else Bad

-- ---- lines

-- the picture that fields name: each is there, no number is out of range, and the depth is that of the tuples
unfoldable pub picture_in : Fields → Option Picture
picture_in f = do
  width ← f.width
  height ← f.height
  depth ← f.depth
  greatest ← f.greatest
  t ← f.tuples
  if nat_lt 0 width && (nat_lt 0 height && (is_greatest greatest && depth == tuple_depth t)) then Some (picture width height (Pam t) greatest) else None

-- what there is at an end
abbrev pub ended : Option Picture → Scan
ended None = Bad
ended (Some p) = Done p

-- after lines
abbrev pub after_lines : Fields → Place → Scan
after_lines f Ended = ended (picture_in f)
after_lines f place = more (Lines (lines f place))

abbrev pub scan_of : Option PamLines → Scan
scan_of None = Bad
scan_of (Some l) = after_lines l.fields l.place

-- ---- one byte more

-- after a byte outside a comment: `P`, then `5` or `6` and numbers, or `7` and lines, which have comments of their own
abbrev pub at_byte : Head → ℕ → Scan
at_byte (Lines l) byte = scan_of (lines_pushed l byte)
at_byte Start byte = if byte == 80 then more Letter else Bad
at_byte Letter byte = if byte == 53 then more (Kind false) else if byte == 54 then more (Kind true) else if byte == 55 then more (Lines lines_start) else Bad
at_byte (Kind colour) byte = in_head (Kind colour) byte
at_byte (Width colour width) byte = in_head (Width colour width) byte
at_byte (Height colour width height) byte = in_head (Height colour width height) byte
at_byte (Greatest colour width height greatest) byte = in_head (Greatest colour width height greatest) byte

-- after a byte: a comment goes up to its line end, and a head has no byte more
abbrev pub pushed : Scan → ℕ → Scan
pushed (More head false) byte = at_byte head byte
pushed (More head true) byte = if is_line_end byte then after_white head else More head true
pushed (Done p) byte = Bad
pushed Bad byte = Bad

-- after bytes, one after the other
abbrev pub scanned : Scan → List ℕ → Scan
scanned s [] = s
scanned s (byte ∷ bytes) = scanned (pushed s byte) bytes

abbrev pub start : Scan
start = more Start

abbrev pub done_as : Scan → Option Picture
done_as (More head comment) = None
done_as (Done p) = Some p
done_as Bad = None

-- the picture that bytes are the head of
abbrev pub picture_of : List ℕ → Option Picture
picture_of head = done_as (scanned start head)

-- ---- what is known of heads

-- no head begins another
abbrev pub ApartHeads : Type 0
ApartHeads = (h k a b : List ℕ) (p q : Picture) → picture_of h ≡ Some p → picture_of k ≡ Some q → h ++ a ≡ k ++ b → (h ≡ k) × (a ≡ b)

-- a byte more is one step more
abbrev pub OneByteMore : Type 0
OneByteMore = (s : Scan) (bytes : List ℕ) (byte : ℕ) → scanned s (bytes ++ byte ∷ []) ≡ pushed (scanned s bytes) byte

-- bytes that are bad begin no head
abbrev pub BadStays : Type 0
BadStays = (h a : List ℕ) → scanned start h ≡ Bad → picture_of (h ++ a) ≡ None

-- a head begins with its letter
abbrev pub BeginsWithLetter : Type 0
BeginsWithLetter = (h : List ℕ) (p : Picture) → picture_of h ≡ Some p → (t : List ℕ) × (h ≡ 80 ∷ t)
