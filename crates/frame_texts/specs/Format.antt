-- The format that a video's line names.
use Rattle.std.specs.Prelude.{ℕ, ◌&&◌, ◌==◌, ◌||◌, ◌^◌, Bool, true, false, not, nat_lt, if◌then◌else◌, List, [], ◌∷◌, Option, Some, None, take, drop, slice_index, codes}
use Rattle.std.specs.Option.{is_none}
use Rattle.std.specs.Str.{bytes_eq}
use Rattle.texts.specs.Parts.{parts_of}
use Rattle.texts.specs.Reading.{◌>>=◌, number_of}
use Rattle.frame_texts.specs.Names.{value_named}
use Rattle.frame_texts.specs.Pixels.{video_pixel}
use Rattle.frame_texts.specs.declared.pixel.Pixel.{Pixel}
use Rattle.frame_texts.specs.declared.header.Chroma.{Chroma}
use Rattle.frame_texts.specs.declared.header.Chroma.TheVariants.{Mono, Small, Wide, Quarter, Whole, WholeAlpha}
use Rattle.frame_texts.specs.declared.header.Format.{Format}

-- what follows the letter in the first field that begins with it
abbrev pub tagged : ℕ → List (List ℕ) → Option (List ℕ)
tagged letter [] = None
tagged letter (field ∷ fields) = if slice_index field 0 == letter then Some (drop 1 field) else tagged letter fields

-- how many columns and rows of pixels share a chroma sample
abbrev pub sampling : Chroma → ℕ × ℕ
sampling Mono = (1, 1)
sampling Small = (2, 2)
sampling Wide = (2, 1)
sampling Quarter = (4, 1)
sampling Whole = (1, 1)
sampling WholeAlpha = (1, 1)

-- how a word names the chroma samples: in one byte each, for two by two pixels, for two by one, for four by one, for each
abbrev pub chroma_of : List ℕ → Option Chroma
chroma_of =
    value_named (
    (codes "mono", Mono)
    ∷ (codes "420jpeg", Small)
    ∷ (codes "420mpeg2", Small)
    ∷ (codes "420paldv", Small)
    ∷ (codes "420", Small)
    ∷ (codes "422", Wide)
    ∷ (codes "411", Quarter)
    ∷ (codes "444", Whole)
    ∷ (codes "444alpha", WholeAlpha)
    ∷ []
    )

-- the same where no other field begins with it: of two sizes others may take the last
abbrev pub tagged_once : ℕ → List (List ℕ) → Option (List ℕ)
tagged_once letter [] = None
tagged_once letter (field ∷ fields) =
    if slice_index field 0 == letter then (if is_none (tagged letter fields) then Some (drop 1 field) else None) else tagged_once letter fields

-- whether the rows of two fields follow one another in turn: the top or the bottom one comes first, or it varies
abbrev pub is_interlaced : Option (List ℕ) → Bool
is_interlaced None = false
is_interlaced (Some word) = bytes_eq word (codes "t") || (bytes_eq word (codes "b") || bytes_eq word (codes "m"))

-- how a word begins that names samples of two bytes
abbrev pub deep_chroma : List ℕ → Option Chroma
deep_chroma = value_named ((codes "mono", Mono) ∷ (codes "420p", Small) ∷ (codes "422p", Wide) ∷ (codes "444p", Whole) ∷ [])

-- and how it ends: the number of bits, as the greatest value of so many
abbrev pub depth_of : List ℕ → Option ℕ
depth_of = value_named ((codes "9", 511) ∷ (codes "10", 1023) ∷ (codes "12", 4095) ∷ (codes "14", 16383) ∷ (codes "16", 65535) ∷ [])

unfoldable pub deep_of : List ℕ → Option (Chroma × Pixel)
deep_of word = do
  chroma ← deep_chroma (take 4 word)
  greatest ← depth_of (drop 4 word)
  Some (chroma, video_pixel greatest)

-- the chroma samples and what a sample is: a byte, or two
abbrev pub sampling_by : Option Chroma → List ℕ → Option (Chroma × Pixel)
sampling_by (Some chroma) word = Some (chroma, video_pixel 255)
sampling_by None word = deep_of word

abbrev pub sampling_of : List ℕ → Option (Chroma × Pixel)
sampling_of word = sampling_by (chroma_of word) word

-- with no such field it is two by two pixels, in bytes
abbrev pub sampling_named : Option (List ℕ) → Option (Chroma × Pixel)
sampling_named None = Some (Small, video_pixel 255)
sampling_named (Some word) = sampling_of word

-- a size in pixels, from 1 to 4294967295
unfoldable pub size_of : List ℕ → Option ℕ
size_of text = do
  size ← number_of text
  if nat_lt 0 size && nat_lt size (2 ^ 32) then Some size else None

-- whether pixels are as wide as they are high, or nothing is said of it
abbrev pub is_square : Option (List ℕ) → Bool
is_square None = true
is_square (Some word) = bytes_eq word (codes "1:1") || bytes_eq word (codes "0:0")

-- whether rows can be columns: pixels are square, and there are no fields
abbrev pub is_upright : Format → Bool
is_upright f = f.square && not f.interlaced

-- the fields after the first
unfoldable pub format_in : List (List ℕ) → Option Format
format_in fields = do
  wide ← tagged_once 87 fields
  width ← size_of wide
  high ← tagged_once 72 fields
  height ← size_of high
  sampling ← sampling_named (tagged 67 fields)
  Some (record { width = width; height = height; chroma = sampling.0; pixel = sampling.1; interlaced = is_interlaced (tagged 73 fields); square = is_square (tagged 65 fields) })

abbrev pub format_of_fields : List (List ℕ) → Option Format
format_of_fields [] = None
format_of_fields (word ∷ fields) = if bytes_eq word (codes "YUV4MPEG2") then format_in fields else None

-- the format that a line names
abbrev pub format_of : List ℕ → Option Format
format_of line = format_of_fields (parts_of 32 line)
