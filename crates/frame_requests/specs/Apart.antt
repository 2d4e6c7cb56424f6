-- Which two files of a run may not be one, and whether standard input is read twice.
use Rattle.std.specs.Prelude.{◌≡◌, ℕ, ◌==◌, ◌&&◌, ◌||◌, Bool, true, false, List, Option, Some, None, codes}
use Rattle.std.specs.List.{slice_get}
use Rattle.std.specs.Option.{is_none}
use Rattle.std.specs.Str.{bytes_eq}
use Rattle.devices.specs.FileIds.{are_one}
use Rattle.devices.specs.declared.file_ids.FileId.{FileId}
use Rattle.frame_requests.specs.declared.apart.Files.{Files}
use Rattle.frame_requests.specs.declared.apart.Role.{Role}
use Rattle.frame_requests.specs.declared.apart.Role.TheVariants.{Input, Edits, Boxes, Output, Report}
use Rattle.frame_requests.specs.declared.options.Options.{Options}

abbrev pub file_of : Files → Role → Option FileId
file_of f Input = f.input
file_of f Edits = f.edits
file_of f Boxes = f.boxes
file_of f Output = f.output
file_of f Report = f.report

-- the first of two files is written, and may not be the other: a new file may get the name of the input
abbrev pub MayNotBe : Files → Role → Role → Type 0
MayNotBe f Report Report = ⊥
MayNotBe f Report _ = Unit {0}
MayNotBe f Output Edits = Unit {0}
MayNotBe f Output Boxes = Unit {0}
MayNotBe f Output Input = f.is_renamed ≡ false
MayNotBe f _ _ = ⊥

-- two such files are one
pub record IsShared (f : Files) (pair : Role × Role) : Type 0 where
  pub may_not : MayNotBe f pair.0 pair.1
  pub one : are_one (file_of f pair.0) (file_of f pair.1) ≡ true

-- no two such files are
abbrev pub AreApart : Files → Type 0
AreApart f = (a b : Role) → MayNotBe f a b → are_one (file_of f a) (file_of f b) ≡ false

-- the word at this place stands for standard input
abbrev pub is_word_dash : Option (List ℕ) → Bool
is_word_dash None = false
is_word_dash (Some word) = bytes_eq word (codes "-")

abbrev pub is_dash : List (List ℕ) → Option ℕ → Bool
is_dash words None = false
is_dash words (Some at) = is_word_dash (slice_get words at)

-- standard input would be read for two of the edits, the boxes and the input
abbrev pub reads_input_twice : Options → List (List ℕ) → Bool
reads_input_twice o words = (is_dash words o.edits && is_dash words o.boxes) || ((is_dash words o.edits || is_dash words o.boxes) && is_none o.input)
