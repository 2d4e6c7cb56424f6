-- The edit that words name.
use Rattle.std.specs.Prelude.{ℕ, ◌+◌, ◌&&◌, nat_le, List, [], ◌∷◌, ◌++◌, Option, Some, None, if◌then◌else◌, codes}
use Rattle.std.specs.Option.{option_map}
use Rattle.std.specs.Str.{bytes_eq}
use Rattle.image_shape.specs.declared.window.Window.{Window}
use Rattle.frame_edits.specs.declared.paint.Paint.{Paint}
use Rattle.frame_edits.specs.declared.paint.Paint.TheVariants.{Grey, Colour, Around}
use Rattle.image_commands.specs.declared.changes.Change.{Change}
use Rattle.image_shape.specs.declared.samples.SampleBytes.TheVariants.{One}
use Rattle.image_commands.specs.declared.changes.Change.TheVariants.{Fill, Mosaic, Mean, Blur, Move, Flip}
use Rattle.image_commands.specs.declared.changes.Axes.{Axes}
use Rattle.image_commands.specs.declared.changes.Axes.TheVariants.{Rows, Columns, Both}
use Rattle.frame_edits.specs.declared.framing.Framing.{Framing}
use Rattle.frame_edits.specs.declared.framing.Framing.TheVariants.{Crop, Pad, Turn}
use Rattle.image_commands.specs.declared.changes.Quarter.{Quarter}
use Rattle.image_commands.specs.declared.changes.Quarter.TheVariants.{Right, Left}
use Rattle.texts.specs.Parts.{parts_of}
use Rattle.texts.specs.Reading.{◌>>=◌, number_of, first_of_parts, number_at, window_of, is_nil}
use Rattle.frame_texts.specs.Ranges.{range_of}
use Rattle.frame_texts.specs.declared.ranges.Range.{Range}
use Rattle.frame_texts.specs.declared.ranges.Range.TheVariants.{Frames}
use Rattle.frame_edits.specs.declared.words.Edit.{Edit}
use Rattle.frame_edits.specs.declared.words.Scope.TheVariants.{Exact}

-- two numbers, and no part more
unfoldable pub pair_in : List (List ℕ) → Option (ℕ × ℕ)
pair_in parts = do
  first ← number_at parts
  second ← number_at first.1
  if is_nil second.1 then Some (first.0, second.0) else None

abbrev pub pair_of : List ℕ → Option (ℕ × ℕ)
pair_of part = pair_in (parts_of 44 part)

-- the radius of a box, below 2 ^ 15
abbrev pub radius_by : Option ℕ → Option ℕ
radius_by None = None
radius_by (Some radius) = if nat_le radius 32767 then Some radius else None

abbrev pub radius_of : List ℕ → Option ℕ
radius_of part = radius_by (number_of part)

-- three numbers, and no part more
unfoldable pub colour_in : List (List ℕ) → Option Paint
colour_in parts = do
  red ← number_at parts
  green ← number_at red.1
  blue ← number_at green.1
  if is_nil blue.1 then Some (Colour red.0 green.0 blue.0) else None

-- a number, or else three with commas between them
abbrev pub paint_by : Option ℕ → List ℕ → Option Paint
paint_by (Some value) part = Some (Grey value)
paint_by None part = colour_in (parts_of 44 part)

abbrev pub paint_of : List ℕ → Option Paint
paint_of part = paint_by (number_of part) part

-- a change by its word, its window and what follows it
unfoldable pub change_of : List ℕ → Window → List ℕ → Option (Change Paint)
change_of word window last =
    if bytes_eq word (codes "fill") then option_map (λ paint. Fill window paint) (paint_of last)
    else if bytes_eq word (codes "mosaic") then option_map (λ p. Mosaic window p.0 p.1) (pair_of last)
    else if bytes_eq word (codes "means") then option_map (λ p. Mean window p.0 p.1 One) (pair_of last)
    else if bytes_eq word (codes "blur") then option_map (λ radius. Blur window radius radius One) (radius_of last)
    else if bytes_eq word (codes "move") then option_map (λ p. Move window p.0 p.1) (pair_of last)
    else None

-- the window of no pixel
abbrev pub no_window : Window
no_window = record { left = 0; top = 0; width = 0; height = 0 }

-- what is to become of each box, by its word and what follows it: a change that keeps the pixels in their places
abbrev pub way_of : List ℕ → List ℕ → Option (Change Paint)
way_of word last = if bytes_eq word (codes "move") then None else change_of word no_window last

-- a border by its sides and what follows them
unfoldable pub pad_of : Window → List ℕ → Option Framing
pad_of sides last = option_map (λ value. Pad sides.left sides.top sides.width sides.height value) (number_of last)

-- ---- the edit at the front of words

-- a border by its sides and the words after them
abbrev pub pad_at : Window → List (List ℕ) → Option Framing
pad_at sides [] = None
pad_at sides (last ∷ words) = pad_of sides last

-- what becomes of the size, by its word, its four numbers and the words after them, and how many words there are
abbrev pub framing_by : List ℕ → Window → List (List ℕ) → Option (Framing × ℕ)
framing_by word numbers words =
    if bytes_eq word (codes "crop") then Some (Crop numbers, 2)
    else if bytes_eq word (codes "pad") then option_map (λ framing. (framing, 3)) (pad_at numbers words)
    else None

-- a quarter turn by its two words
abbrev pub quarter_of : List ℕ → List ℕ → Option Quarter
quarter_of word side =
    if bytes_eq word (codes "turn") && bytes_eq side (codes "right") then Some Right
    else if bytes_eq word (codes "turn") && bytes_eq side (codes "left") then Some Left
    else None

-- a quarter turn, or else what becomes of the size by numbers
abbrev pub turn_by : Option Quarter → List ℕ → List ℕ → List (List ℕ) → Option (Framing × ℕ)
turn_by (Some quarter) word numbers words = Some (Turn quarter, 2)
turn_by None word numbers words = window_of numbers >>= λ window. framing_by word window words

unfoldable pub framing_at : List (List ℕ) → Option (Framing × ℕ)
framing_at [] = None
framing_at (word ∷ []) = None
framing_at (word ∷ (numbers ∷ words)) = turn_by (quarter_of word numbers) word numbers words

-- the margin after a plus sign, which may be left out
abbrev pub margin_in : List (List ℕ) → Option (Option ℕ)
margin_in [] = Some None
margin_in (part ∷ parts) = if is_nil parts then option_map (λ margin. Some margin) (number_of part) else None

-- a window and the margin around it, by what there is before and after plus signs
unfoldable pub rectangle_in : List (List ℕ) → Option (Window × Option ℕ)
rectangle_in parts = do
  window ← first_of_parts window_of parts
  margin ← margin_in window.1
  Some (window.0, margin)

abbrev pub rectangle_of : List ℕ → Option (Window × Option ℕ)
rectangle_of word = rectangle_in (parts_of 43 word)

-- a cover of a window, whose value may be left out: then it is black; and how many words there are
abbrev pub cover_by : Window → Option ℕ → Option ℕ → Change Paint × ℕ
cover_by window margin (Some value) = (Fill window (Around (Some value) margin), 3)
cover_by window margin None = (Fill window (Around None margin), 2)

abbrev pub cover_at : Window → Option ℕ → List (List ℕ) → Change Paint × ℕ
cover_at window margin [] = cover_by window margin None
cover_at window margin (last ∷ words) = cover_by window margin (number_of last)

-- another change, by its word, its window and what follows it
abbrev pub other_at : List ℕ → Window → List (List ℕ) → Option (Change Paint × ℕ)
other_at word window [] = None
other_at word window (last ∷ words) = option_map (λ change. (change, 3)) (change_of word window last)

-- what changes places in the whole frame, by two words
abbrev pub axes_of : List ℕ → List ℕ → Option Axes
axes_of word which =
    if bytes_eq word (codes "flip") && bytes_eq which (codes "rows") then Some Rows
    else if bytes_eq word (codes "flip") && bytes_eq which (codes "columns") then Some Columns
    else if bytes_eq word (codes "turn") && bytes_eq which (codes "half") then Some Both
    else None

-- a flip, or else a change by its window
abbrev pub flip_by : Option Axes → List ℕ → List ℕ → List (List ℕ) → Option (Change Paint × ℕ)
flip_by (Some axes) word numbers words = Some (Flip axes, 2)
flip_by None word numbers words = window_of numbers >>= λ window. other_at word window words

-- a change by its word, its numbers and the words after them, and how many words there are: only a cover has a margin
abbrev pub change_at : List ℕ → List ℕ → List (List ℕ) → Option (Change Paint × ℕ)
change_at word numbers words =
    if bytes_eq word (codes "cover") then option_map (λ r. cover_at r.0 r.1 words) (rectangle_of numbers)
    else flip_by (axes_of word numbers) word numbers words

-- a change of the frames of a range at the front of words, and how many words there are
unfoldable pub step_at : Range → List (List ℕ) → Option (Edit × ℕ)
step_at range [] = None
step_at range (word ∷ []) = None
step_at range (word ∷ (numbers ∷ words)) = option_map (λ c. (record { range = range; change = c.0; scope = Exact }, c.1)) (change_at word numbers words)

-- the same with the range before it: with no range it is a change of all frames
abbrev pub ranged_by : Option Range → List ℕ → List (List ℕ) → Option (Edit × ℕ)
ranged_by (Some range) front words = option_map (λ s. (s.0, s.1 + 1)) (step_at range words)
ranged_by None front words = step_at (Frames 0 18446744073709551615) (front ∷ words)

unfoldable pub ranged_at : List (List ℕ) → Option (Edit × ℕ)
ranged_at [] = None
ranged_at (front ∷ words) = ranged_by (range_of front) front words

-- an edit: a step or none, what becomes of the size, and how many words it has
pub record Named : Type 0 where
  pub steps : List Edit
  pub framing : Option Framing
  pub count : ℕ

abbrev pub named : Option (Framing × ℕ) → Option (Edit × ℕ) → Option Named
named (Some f) s = Some (record { steps = []; framing = Some f.0; count = f.1 })
named None s = option_map (λ r. record { steps = r.0 ∷ []; framing = None; count = r.1 }) s

-- the edit at the front of words
abbrev pub edit_at : List (List ℕ) → Option Named
edit_at words = named (framing_at words) (ranged_at words)

-- steps with those of an edit after them, what becomes of the size, and how many words the edit has
abbrev pub with_edit : List Edit → Named → List Edit × (Option Framing × ℕ)
with_edit steps e = (steps ++ e.steps, (e.framing, e.count))
