-- The edits that words or the lines of a file are, and which of them are refused.
use Rattle.std.specs.Prelude.{◌≡◌, ◌≢◌, ◌&&◌, ◌<◌, ℕ, Bool, true, false, nat_lt, IsTrue, List, [], All, Some, None, IfSome, length, take}
use Rattle.std.specs.List.{flat_map, list_any, slice_get}
use Rattle.std.specs.Option.{is_none}
use Rattle.texts.specs.Parts.{parts_of}
use Rattle.texts.specs.Reading.{is_nil}
use Rattle.frame_edits.specs.Edits.{Edits, edits}
use Rattle.frame_edits.specs.Lists.{AreEdits, HaveEdits, NeedsMemory, NeedsPlace, framing_after, with_lines}
use Rattle.frame_edits.specs.Words.{Named}
use Rattle.image_commands.specs.Changes.{is_blur}
use Rattle.frame_texts.specs.declared.ranges.Range.{Range}
use Rattle.frame_texts.specs.declared.ranges.Range.TheVariants.{Frames, Times}
use Rattle.frame_edits.specs.declared.words.Edit.{Edit}
use Rattle.frame_texts.specs.declared.fault.WordsFault.{WordsFault}
use Rattle.frame_texts.specs.declared.fault.WordsFault.TheVariants.{NoEdit, Memory as NoMemory}
use Rattle.frame_requests.specs.declared.words.Refusal.{Refusal}
use Rattle.frame_requests.specs.declared.words.Refusal.TheVariants.{Empty, NoFrame, NoEdits, Memory}

-- the words are these edits, one after the other
pub record AreWords (words : List (List ℕ)) (e : Edits) : Type 0 where
  pub edits : List Named
  pub are : AreEdits edits None words
  pub steps : e.steps ≡ flat_map (λ n. n.steps) edits
  pub framing : e.framing ≡ framing_after edits None

-- a range begins before its end, where it has one
abbrev pub has_span : Range → Bool
has_span (Frames first end) = nat_lt first end
has_span (Times from None) = true
has_span (Times from (Some to)) = nat_lt from to

-- the range of each edit begins before its end
abbrev pub HaveFrames : List Edit → Type 0
HaveFrames edits = All (λ s. IsTrue (has_span s.range)) edits

-- there is an edit, and the range of each begins before its end
pub record AreUsable (e : Edits) : Type 0 where
  pub some : is_nil e.steps && is_none e.framing ≡ false
  pub ranges : HaveFrames e.steps

-- the edit of this number is the first whose range has no frame
pub record IsFirstEmpty (edits : List Edit) (at : ℕ) : Type 0 where
  pub there : at < length edits
  pub empty : IfSome (slice_get edits at) (λ s. has_span s.range ≡ false)
  pub before : HaveFrames (take at edits)

-- why edits are refused: there is none, or the range of this one has no frame
abbrev pub AreRefused : Edits → Refusal → Type 0
AreRefused e Empty = is_nil e.steps && is_none e.framing ≡ true
AreRefused e (NoFrame at) = IsFirstEmpty e.steps at
AreRefused e _ = ⊥

-- such edits are refused for this
pub record Refused (Are : Edits → Type 0) (why : Refusal) : Type 0 where
  pub edits : Edits
  pub are : Are edits
  pub refused : AreRefused edits why

-- words are edits, and the first has a step, for which there is no memory
pub record WordsNeedMemory (words : List (List ℕ)) : Type 0 where
  pub are : HaveEdits None words
  pub needs : NeedsMemory None words

-- the same of the lines of a text
pub record LinesNeedMemory (text : List ℕ) : Type 0 where
  pub are : with_lines (edits [] None) (parts_of 10 text) ≢ None
  pub needs : NeedsPlace (edits [] None) (parts_of 10 text)

-- why words are refused: they are no edits, or there is no memory for the first one, which has a step, or their edits are refused
abbrev pub RefusesWords : List (List ℕ) → Refusal → Type 0
RefusesWords words NoEdits = (named : List Named) → AreEdits named None words → ⊥
RefusesWords words Memory = WordsNeedMemory words
RefusesWords words why = Refused (AreWords words) why

-- the same of the lines of a text; memory is needed only where a line is an edit with a step, and all are edits
abbrev pub RefusesLines : List ℕ → Refusal → Type 0
RefusesLines text NoEdits = with_lines (edits [] None) (parts_of 10 text) ≡ None
RefusesLines text Memory = LinesNeedMemory text
RefusesLines text why = Refused (λ e. with_lines (edits [] None) (parts_of 10 text) ≡ Some e) why

-- why words or lines are no edits
abbrev pub refusal_of : WordsFault → Refusal
refusal_of NoEdit = NoEdits
refusal_of NoMemory = Memory

-- a change is a blur
abbrev pub has_blur : List Edit → Bool
has_blur steps = list_any (λ s. is_blur s.change) steps
