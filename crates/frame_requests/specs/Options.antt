-- The options before the edits.
use Rattle.std.specs.Prelude.{◌≡◌, ℕ, ◌+◌, ◌==◌, ◌&&◌, ◌||◌, Bool, true, false, not, if◌then◌else◌, List, [], ◌∷◌, drop, slice_index, Option, Some, None, Result, Ok, Err, codes}
use Rattle.std.specs.Option.{is_none, is_some, option_map}
use Rattle.std.specs.Str.{bytes_eq}
use Rattle.texts.specs.Reading.{number_of}
use Rattle.image_commands.specs.declared.changes.Change.{Change}
use Rattle.frame_edits.specs.Words.{way_of}
use Rattle.frame_edits.specs.declared.paint.Paint.{Paint}
use Rattle.frame_texts.specs.Names.{value_named}
use Rattle.frame_requests.specs.declared.options.Item.{Item}
use Rattle.frame_requests.specs.declared.options.Item.TheVariants as item
use Rattle.frame_requests.specs.declared.options.Followed.{Followed}
use Rattle.frame_requests.specs.declared.options.Followed.TheVariants.{Limit, Edits, Boxes, Hold, Margin, Report, Frames, Input, Output}
use Rattle.frame_requests.specs.declared.options.Misread.{Misread}
use Rattle.frame_requests.specs.declared.options.Misread.TheVariants.{Lacks, NoNumber, NoWay, NoName, Unknown}
use Rattle.frame_requests.specs.declared.options.Options.{Options}

-- ---- the option at the front of words

-- an option that no other word follows
abbrev pub alone_of : List ℕ → Option Item
alone_of = value_named ((codes "--strict", item.Strict) ∷ (codes "--require-box", item.RequireBox) ∷ [])

-- an option that one word follows
abbrev pub followed_of : List ℕ → Option Followed
followed_of =
    value_named (
    (codes "--limit", Limit)
    ∷ (codes "--edits", Edits)
    ∷ (codes "--boxes", Boxes)
    ∷ (codes "--hold", Hold)
    ∷ (codes "--margin", Margin)
    ∷ (codes "--report", Report)
    ∷ (codes "--frames", Frames)
    ∷ (codes "-i", Input)
    ∷ (codes "-o", Output)
    ∷ []
    )

-- a word names a file, and no standard stream
abbrev pub is_name : List ℕ → Bool
is_name word = not (bytes_eq word (codes "-"))

-- an option with the word after it, where that is a number or a name as the option needs it
abbrev pub with_word : Followed → List ℕ → Option Item
with_word Limit word = option_map item.Limit (number_of word)
with_word Edits word = Some item.Edits
with_word Boxes word = Some item.Boxes
with_word Hold word = option_map item.Hold (number_of word)
with_word Margin word = option_map item.Margin (number_of word)
with_word Report word = if is_name word then Some item.Report else None
with_word Frames word = option_map item.Frames (number_of word)
with_word Input word = Some (item.Input (is_name word))
with_word Output word = Some (item.Output (is_name word))

-- why the word isn't one that the option at this place needs
abbrev pub misread_word : Followed → ℕ → Misread
misread_word Report at = NoName at
misread_word _ at = NoNumber (at + 1)

-- what is at the front of words: an option and how many words it has, or none, or a fault of one at this place
abbrev pub Front : Type 0
Front = Result (Option (Item × ℕ)) Misread

abbrev pub word_at : Option Item → Followed → ℕ → Front
word_at (Some i) option at = Ok (Some (i, 2))
word_at None option at = Err (misread_word option at)

abbrev pub followed_at : Followed → List (List ℕ) → ℕ → Front
followed_at option [] at = Err (Lacks at)
followed_at option (word ∷ words) at = word_at (with_word option word) option at

abbrev pub way_by : Option (Change Paint) → ℕ → Front
way_by (Some way) at = Ok (Some (item.With way, 3))
way_by None at = Err (NoWay (at + 1))

abbrev pub way_at : List (List ℕ) → ℕ → Front
way_at [] at = Err (Lacks at)
way_at (word ∷ []) at = Err (Lacks at)
way_at (word ∷ (last ∷ words)) at = way_by (way_of word last) at

-- a word that isn't an option begins with no dash
abbrev pub other_at : Option Followed → List ℕ → List (List ℕ) → ℕ → Front
other_at (Some option) word words at = followed_at option words at
other_at None word words at = if slice_index word 0 == 45 then Err (Unknown at) else Ok None

abbrev pub item_by : Option Item → List ℕ → List (List ℕ) → ℕ → Front
item_by (Some i) word words at = Ok (Some (i, 1))
item_by None word words at = if bytes_eq word (codes "--with") then way_at words at else other_at (followed_of word) word words at

abbrev pub item_at : List (List ℕ) → ℕ → Front
item_at [] at = Ok None
item_at (word ∷ words) at = item_by (alone_of word) word words at

-- ---- what an option sets

abbrev pub is_strict : Item → Bool → Bool
is_strict item.Strict old = true
is_strict _ old = old

abbrev pub requires_box : Item → Bool → Bool
requires_box item.RequireBox old = true
requires_box _ old = old

abbrev pub limit_by : Item → ℕ → ℕ
limit_by (item.Limit n) old = n
limit_by _ old = old

abbrev pub with_by : Item → Option (Change Paint) → Option (Change Paint)
with_by (item.With way) old = Some way
with_by _ old = old

abbrev pub hold_by : Item → Option ℕ → Option ℕ
hold_by (item.Hold n) old = Some n
hold_by _ old = old

abbrev pub margin_by : Item → Option ℕ → Option ℕ
margin_by (item.Margin n) old = Some n
margin_by _ old = old

abbrev pub frames_by : Item → Option ℕ → Option ℕ
frames_by (item.Frames n) old = Some n
frames_by _ old = old

-- names are told by their places
abbrev pub edits_by : Item → ℕ → Option ℕ → Option ℕ
edits_by item.Edits at old = Some at
edits_by _ at old = old

abbrev pub boxes_by : Item → ℕ → Option ℕ → Option ℕ
boxes_by item.Boxes at old = Some at
boxes_by _ at old = old

abbrev pub report_by : Item → ℕ → Option ℕ → Option ℕ
report_by item.Report at old = Some at
report_by _ at old = old

abbrev pub stream_by : Bool → ℕ → Option ℕ
stream_by named at = if named then Some at else None

abbrev pub input_by : Item → ℕ → Option ℕ → Option ℕ
input_by (item.Input named) at old = stream_by named at
input_by _ at old = old

abbrev pub output_by : Item → ℕ → Option ℕ → Option ℕ
output_by (item.Output named) at old = stream_by named at
output_by _ at old = old

-- options with one more, of so many words
abbrev pub with_item : Options → Item × ℕ → Options
with_item o i = record {
  strict = is_strict i.0 o.strict;
  limit = limit_by i.0 o.limit;
  edits = edits_by i.0 (o.first + 1) o.edits;
  boxes = boxes_by i.0 (o.first + 1) o.boxes;
  hold = hold_by i.0 o.hold;
  margin = margin_by i.0 o.margin;
  with = with_by i.0 o.with;
  require_box = requires_box i.0 o.require_box;
  report = report_by i.0 (o.first + 1) o.report;
  frames = frames_by i.0 o.frames;
  input = input_by i.0 (o.first + 1) o.input;
  output = output_by i.0 (o.first + 1) o.output;
  first = o.first + i.1;
}

-- an option is for the boxes of a list, and there is no list
abbrev pub lacks_boxes : Options → Bool
lacks_boxes o = is_none o.boxes && (is_some o.hold || (is_some o.margin || (is_some o.with || o.require_box)))

-- the first option that is for the boxes of a list
abbrev pub list_option : Options → Option (List ℕ)
list_option o =
    if is_some o.hold then Some (codes "--hold")
    else if is_some o.margin then Some (codes "--margin")
    else if is_some o.with then Some (codes "--with")
    else if o.require_box then Some (codes "--require-box")
    else None

-- ---- all options

-- what there is without an option: 1 GiB for all buffers, and words after the program's name
abbrev pub no_options : Options
no_options = record { strict = false; limit = 1073741824; edits = None; boxes = None; hold = None; margin = None; with = None; require_box = false; report = None; frames = None; input = None; output = None; first = 1 }

-- options with these after them, each of which is at its place
abbrev pub Adds : List (Item × ℕ) → List (List ℕ) → Options → Options → Type 0
Adds [] words old new = new ≡ old
Adds (i ∷ is) words old new = (item_at (drop old.first words) old.first ≡ Ok (Some i)) × Adds is words (with_item old i) new

-- the words begin with such options, which set these
pub record BeginWith (words : List (List ℕ)) (options : Options) : Type 0 where
  pub items : List (Item × ℕ)
  pub adds : Adds items words no_options options

-- and after them there is no option
pub record AreOptions (words : List (List ℕ)) (options : Options) : Type 0 where
  pub begin : BeginWith words options
  pub ends : item_at (drop options.first words) options.first ≡ Ok None

-- and after some of them there is one with this fault
pub record AreMisread (words : List (List ℕ)) (why : Misread) : Type 0 where
  pub options : Options
  pub begin : BeginWith words options
  pub ends : item_at (drop options.first words) options.first ≡ Err why
