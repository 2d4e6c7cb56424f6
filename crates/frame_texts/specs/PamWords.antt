-- The words in the lines of the head of a PAM picture.
use Rattle.std.specs.Prelude.{ℕ, ◌==◌, ◌||◌, ◌&&◌, Bool, true, false, nat_lt, if◌then◌else◌, List, length, slice_index, Option, Some, None, codes}
use Rattle.frame_texts.specs.declared.pam_words.Key.{Key}
use Rattle.frame_texts.specs.declared.pam_words.Key.TheVariants.{Width, Height, Depth, Greatest, Tupltype, End}

-- the word with which a line begins
abbrev pub key_text : Key → List ℕ
key_text Width = codes "WIDTH"
key_text Height = codes "HEIGHT"
key_text Depth = codes "DEPTH"
key_text Greatest = codes "MAXVAL"
key_text Tupltype = codes "TUPLTYPE"
key_text End = codes "ENDHDR"

-- no two begin with the same letter
abbrev pub key_of : ℕ → Option Key
key_of byte =
    if byte == 87 then Some Width
    else if byte == 72 then Some Height
    else if byte == 68 then Some Depth
    else if byte == 77 then Some Greatest
    else if byte == 84 then Some Tupltype
    else if byte == 69 then Some End
    else None

-- the longer name of the type of such tuples, and how many of its letters are the shorter one
abbrev pub type_text : Bool → List ℕ
type_text false = codes "GRAYSCALE_ALPHA"
type_text true = codes "RGB_ALPHA"

abbrev pub plain_letters : Bool → ℕ
plain_letters false = 9
plain_letters true = 3

-- whether a byte goes on with a text of which so many were read
abbrev pub goes_on : List ℕ → ℕ → ℕ → Bool
goes_on text count byte = nat_lt count (length text) && (slice_index text count == byte)

-- a space or a tab
abbrev pub is_blank : ℕ → Bool
is_blank byte = byte == 32 || byte == 9
