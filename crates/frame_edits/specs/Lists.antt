-- Which edits a list of words is, and which the lines of a file are.
use Rattle.std.specs.Prelude.{◌≡◌, ◌≢◌, ◌==◌, ℕ, List, [], ◌∷◌, ◌++◌, Option, Some, None, IfSome, drop, length, if◌then◌else◌}
use Rattle.std.specs.List.{flat_map}
use Rattle.std.specs.Option.{is_none, option_map}
use Rattle.texts.specs.Reading.{◌>>=◌, is_nil}
use Rattle.frame_edits.specs.Edits.{edits, Edits as Plain}
use Rattle.frame_edits.specs.Words.{Named, edit_at}
use Rattle.frame_edits.specs.declared.framing.Framing.{Framing}
use Rattle.frame_edits.specs.declared.lists.Edits.{Edits}
use Rattle.frame_edits.specs.declared.found.Found.{Found}
use Rattle.frame_edits.specs.declared.found.Found.TheVariants.{Step, Size}
use Rattle.frame_edits.specs.declared.found.Line.{Line}
use Rattle.frame_edits.specs.declared.found.Line.TheVariants.{Blank, Edit as One, Bad}
use Rattle.frame_edits.specs.declared.words.Edit.{Edit}
use Rattle.frame_texts.specs.Lines.{line_words}

-- words are these edits, one after the other, where this became of the size before: no edit comes after a crop or a pad
abbrev pub AreEdits : List Named → Option Framing → List (List ℕ) → Type 0
AreEdits [] framing words = words ≡ []
AreEdits (e ∷ es) framing words = (framing ≡ None) × (edit_at words ≡ Some e) × AreEdits es e.framing (drop e.count words)

-- what becomes of the size after them
abbrev pub framing_after : List Named → Option Framing → Option Framing
framing_after [] framing = framing
framing_after (e ∷ es) framing = framing_after es e.framing

-- edits with those after them that words are
pub record Adds (words : List (List ℕ)) (old new : Edits) : Type 0 where
  pub edits : List Named
  pub are : AreEdits edits old.framing words
  pub steps : new.steps.items ≡ old.steps.items ++ flat_map (λ e. e.steps) edits
  pub framing : new.framing ≡ framing_after edits old.framing

-- words are no edits
abbrev pub AddsNone : List (List ℕ) → Edits → Type 0
AddsNone words old = (edits : List Named) → AreEdits edits old.framing words → ⊥

-- words are edits, one after the other
abbrev pub HaveEdits : Option Framing → List (List ℕ) → Type 0
HaveEdits framing words = (edits : List Named) × AreEdits edits framing words

-- the first of some words are an edit with a step, and there is no crop or pad yet: a place for the step needs memory
abbrev pub NeedsMemory : Option Framing → List (List ℕ) → Type 0
NeedsMemory framing words = (framing ≡ None) × (edit_at words ≢ None) × IfSome (edit_at words) (λ e. e.steps ≢ [])

-- what was found at the front of words, as an edit of so many words
abbrev pub steps_of : Found → List Edit
steps_of (Step e) = e ∷ []
steps_of (Size f) = []

abbrev pub framing_of : Found → Option Framing
framing_of (Step e) = None
framing_of (Size f) = Some f

abbrev pub named_of : Found → ℕ → Named
named_of found count = record { steps = steps_of found; framing = framing_of found; count = count }

-- ---- lines

-- the edit that words are, all of them
abbrev pub edit_of : List (List ℕ) → Option Named
edit_of words = edit_at words >>= λ e. if e.count == length words then Some e else None

-- what the words of a line are: none, one edit, or anything else
abbrev pub WordsAre : List (List ℕ) → Line → Type 0
WordsAre words Blank = words ≡ []
WordsAre words (One found) = (words ≢ []) × (edit_of words ≡ Some (named_of found (length words)))
WordsAre words Bad = (words ≢ []) × (edit_of words ≡ None)

-- edits with one more, where there is no crop or pad yet
abbrev pub with_one : Plain → List (List ℕ) → Option Plain
with_one old words = if is_none old.framing then option_map (λ e. edits (old.steps ++ e.steps) e.framing) (edit_of words) else None

-- edits with the one that the words of a line are; without a word the line is ignored
abbrev pub with_words : Plain → List (List ℕ) → Option Plain
with_words old words = if is_nil words then Some old else with_one old words

abbrev pub with_line : Plain → List ℕ → Option Plain
with_line old line = with_words old (line_words line)

-- edits with those that lines are, one after the other
abbrev pub with_lines : Plain → List (List ℕ) → Option Plain
with_lines old [] = Some old
with_lines old (line ∷ lines) = with_line old line >>= λ new. with_lines new lines

-- a line is an edit with a step, which may come after these
pub record IsEditLine (old : Plain) (line : List ℕ) : Type 0 where
  pub word : line_words line ≢ []
  pub edit : with_line old line ≢ None
  pub step : IfSome (with_line old line) (λ new. new.steps ≢ old.steps)

-- one of some lines is an edit with a step, and those before it are edits: a place for the step needs memory
pub record NeedsPlace (old : Plain) (lines : List (List ℕ)) : Type 0 where
  pub before : List (List ℕ)
  pub line : List ℕ
  pub others : List (List ℕ)
  pub lines_are : lines ≡ before ++ line ∷ others
  pub made : Plain
  pub good : with_lines old before ≡ Some made
  pub edit : IsEditLine made line

-- edits of the code as the definitions see them
abbrev pub plain : Edits → Plain
plain e = edits e.steps.items e.framing
