-- The lines of the head of a PAM picture, after the two bytes of its kind.
use Rattle.std.specs.Prelude.{ℕ, ◌+◌, ◌-◌, ◌==◌, ◌&&◌, Bool, true, false, if◌then◌else◌, length, Option, Some, None}
use Rattle.std.specs.Option.{is_none, option_map}
use Rattle.texts.specs.Reading.{◌>>=◌}
use Rattle.frame_texts.specs.Digits.{is_digit, with_digit}
use Rattle.frame_texts.specs.PamWords.{key_text, key_of, type_text, plain_letters, goes_on, is_blank}
use Rattle.frame_texts.specs.declared.pam.Tuples.{Tuples}
use Rattle.frame_texts.specs.declared.pam.Fields.{Fields}
use Rattle.frame_texts.specs.declared.pam_words.Key.{Key}
use Rattle.frame_texts.specs.declared.pam_words.Key.TheVariants.{Width, Height, Depth, Greatest, Tupltype, End}
use Rattle.frame_texts.specs.declared.pam.Place.{Place}
use Rattle.frame_texts.specs.declared.pam.Place.TheVariants.{Kind, Line, Comment, Word, Number, Gap, Letters, Ended}
use Rattle.frame_texts.specs.declared.pam.Lines.{Lines}

abbrev pub tuple : Bool → Bool → Tuples
tuple colour alpha = record { colour = colour; alpha = alpha }

abbrev pub fields : Option ℕ → Option ℕ → Option ℕ → Option ℕ → Option Tuples → Fields
fields width height depth greatest tuples = record { width = width; height = height; depth = depth; greatest = greatest; tuples = tuples }

abbrev pub lines : Fields → Place → Lines
lines f place = record { fields = f; place = place }

-- how many samples a pixel has
abbrev pub tuple_depth : Tuples → ℕ
tuple_depth t = (if t.colour then 3 else 1) + (if t.alpha then 1 else 0)

-- ---- fields, each of which occurs once

abbrev pub with_field : Fields → Key → ℕ → Option Fields
with_field f Width n = if is_none f.width then Some (fields (Some n) f.height f.depth f.greatest f.tuples) else None
with_field f Height n = if is_none f.height then Some (fields f.width (Some n) f.depth f.greatest f.tuples) else None
with_field f Depth n = if is_none f.depth then Some (fields f.width f.height (Some n) f.greatest f.tuples) else None
with_field f Greatest n = if is_none f.greatest then Some (fields f.width f.height f.depth (Some n) f.tuples) else None
with_field f Tupltype n = None
with_field f End n = None

abbrev pub with_tuples : Fields → Bool → Bool → Option Fields
with_tuples f colour alpha = if is_none f.tuples then Some (fields f.width f.height f.depth f.greatest (Some (tuple colour alpha))) else None

-- ---- one byte more

-- after a byte at the beginning of a line: an empty line, a comment or a word
abbrev pub at_line : Fields → ℕ → Option Lines
at_line f byte =
    if byte == 10 then Some (lines f Line)
    else if byte == 35 then Some (lines f Comment)
    else option_map (λ key. lines f (Word key 1)) (key_of byte)

-- after the byte that ends a word
abbrev pub after_word : Fields → Key → ℕ → Option Lines
after_word f Tupltype byte = if is_blank byte then Some (lines f Gap) else None
after_word f End byte = if byte == 10 then Some (lines f Ended) else None
after_word f key byte = if is_blank byte then Some (lines f (Number key None)) else None

abbrev pub at_word : Fields → Key → ℕ → ℕ → Option Lines
at_word f key count byte =
    if goes_on (key_text key) count byte then Some (lines f (Word key (count + 1)))
    else if count == length (key_text key) then after_word f key byte
    else None

-- a number, with blanks before it and a line feed after it
abbrev pub at_number : Fields → Key → Option ℕ → ℕ → Option Lines
at_number f key number byte =
    if is_digit byte then option_map (λ n. lines f (Number key (Some n))) (with_digit number (byte - 48))
    else if byte == 10 then (number >>= λ n. option_map (λ g. lines g Line) (with_field f key n))
    else if is_blank byte && is_none number then Some (lines f (Number key None))
    else None

-- the blanks before the type
abbrev pub at_gap : Fields → ℕ → Option Lines
at_gap f byte =
    if is_blank byte then Some (lines f Gap)
    else if byte == 71 then Some (lines f (Letters false 1))
    else if byte == 82 then Some (lines f (Letters true 1))
    else None

-- the line feed after so many letters of the type
abbrev pub after_letters : Fields → Bool → ℕ → Option Lines
after_letters f colour count =
    if count == length (type_text colour) then option_map (λ g. lines g Line) (with_tuples f colour true)
    else if count == plain_letters colour then option_map (λ g. lines g Line) (with_tuples f colour false)
    else None

abbrev pub at_letters : Fields → Bool → ℕ → ℕ → Option Lines
at_letters f colour count byte =
    if goes_on (type_text colour) count byte then Some (lines f (Letters colour (count + 1)))
    else if byte == 10 then after_letters f colour count
    else None

-- lines with a byte more, or nothing where they begin no head
abbrev pub with_byte : Fields → Place → ℕ → Option Lines
with_byte f Kind byte = if byte == 10 then Some (lines f Line) else None
with_byte f Line byte = at_line f byte
with_byte f Comment byte = if byte == 10 then Some (lines f Line) else Some (lines f Comment)
with_byte f (Word key count) byte = at_word f key count byte
with_byte f (Number key number) byte = at_number f key number byte
with_byte f Gap byte = at_gap f byte
with_byte f (Letters colour count) byte = at_letters f colour count byte
with_byte f Ended byte = None

abbrev pub lines_pushed : Lines → ℕ → Option Lines
lines_pushed l byte = with_byte l.fields l.place byte

-- the lines after the two bytes of the kind
abbrev pub lines_start : Lines
lines_start = lines (fields None None None None None) Kind
