-- The edits that a person asks for: those of a file or of words, after the boxes of a list.
use Rattle.std.specs.Prelude.{◌≡◌, ◌≢◌, ◌⊎◌, ℕ, Bool, true, false, if◌then◌else◌, List, [], Option, Some, None}
use Rattle.std.specs.Option.{is_some}
use Rattle.texts.specs.Parts.{parts_of}
use Rattle.frame_texts.specs.Boxes.{each_box}
use Rattle.frame_edits.specs.Edits.{Edits, edits}
use Rattle.frame_edits.specs.Lists.{with_lines}
use Rattle.frame_edits.specs.declared.box_covers.BoxStyle.{BoxStyle}
use Rattle.frame_requests.specs.Boxes.{BeginsWithBoxes, BoxesAreRefused}
use Rattle.frame_requests.specs.Words.{AreWords, RefusesLines, RefusesWords}
use Rattle.frame_requests.specs.declared.words.Refusal.{Refusal}
use Rattle.frame_requests.specs.declared.words.Refusal.TheVariants.{NoBoxes, Memory}

-- the edits of the words; beside a list of boxes there may be no word
abbrev pub AreSaid : List (List ℕ) → Bool → Edits → Type 0
AreSaid [] true e = e ≡ edits [] None
AreSaid words boxed e = AreWords words e

-- the edits of the lines of a file, where there is one, and else of the words
abbrev pub AreNamed : Option (List ℕ) → List (List ℕ) → Bool → Edits → Type 0
AreNamed (Some text) words boxed e = with_lines (edits [] None) (parts_of 10 text) ≡ Some e
AreNamed None words boxed e = AreSaid words boxed e

-- why these are refused: beside a list of boxes no word is no refusal
abbrev pub SaidAreRefused : List (List ℕ) → Bool → Refusal → Type 0
SaidAreRefused [] true why = ⊥
SaidAreRefused words boxed why = RefusesWords words why

abbrev pub NamedAreRefused : Option (List ℕ) → List (List ℕ) → Bool → Refusal → Type 0
NamedAreRefused (Some text) words boxed why = RefusesLines text why
NamedAreRefused None words boxed why = SaidAreRefused words boxed why

-- edits are those of a file or of words, and after the boxes of a list of this text these become others
pub record AreAfterBoxes (style : BoxStyle) (boxes : List ℕ) (hold : Option ℕ) (file : Option (List ℕ)) (words : List (List ℕ)) (e : Edits) : Type 0 where
  pub others : Edits
  pub are : AreNamed file words true others
  pub begins : BeginsWithBoxes style boxes hold others e

-- the edits asked for: after the boxes of a list, where there is one
abbrev pub AreAsked : BoxStyle → Option (List ℕ) → Option ℕ → Option (List ℕ) → List (List ℕ) → Edits → Type 0
AreAsked style None hold file words e = AreNamed file words false e
AreAsked style (Some boxes) hold file words e = AreAfterBoxes style boxes hold file words e

-- the edits of a file or of words are there, and the boxes before them are refused for this
pub record BoxesBeforeAreRefused (style : BoxStyle) (boxes : List ℕ) (hold : Option ℕ) (file : Option (List ℕ)) (words : List (List ℕ)) (why : Refusal) : Type 0 where
  pub others : Edits
  pub are : AreNamed file words true others
  pub refused : BoxesAreRefused style boxes hold why

-- there is no memory for edits beside a list of boxes, whose lines are boxes
abbrev pub AreBoxesWhere : Refusal → List ℕ → Type 0
AreBoxesWhere Memory boxes = each_box boxes ≢ None
AreBoxesWhere _ boxes = Unit {0}

-- what is told in its place
abbrev pub told : Refusal → List ℕ → Refusal
told Memory boxes = if is_some (each_box boxes) then Memory else NoBoxes
told why boxes = why

-- the edits of a file or of words are refused for this, beside a list of boxes: a line of it that is no box is told whatever memory there is
pub record BesideBoxesAreRefused (boxes : List ℕ) (file : Option (List ℕ)) (words : List (List ℕ)) (why : Refusal) : Type 0 where
  pub refused : NamedAreRefused file words true why
  pub boxes_are : AreBoxesWhere why boxes

-- why what is asked for is refused
abbrev pub AskedIsRefused : BoxStyle → Option (List ℕ) → Option ℕ → Option (List ℕ) → List (List ℕ) → Refusal → Type 0
AskedIsRefused style None hold file words why = NamedAreRefused file words false why
AskedIsRefused style (Some boxes) hold file words why = BesideBoxesAreRefused boxes file words why ⊎ BoxesBeforeAreRefused style boxes hold file words why
