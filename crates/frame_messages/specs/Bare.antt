-- Frames in which there is no box of a list.
use Rattle.std.specs.Prelude.{◌≡◌, ◌≤◌, ◌<◌, ◌+◌, ◌-◌, ◌&&◌, ℕ, zero, suc, Bool, true, false, not, nat_lt, nat_le, min, if◌then◌else◌, List, [], ◌∷◌, ◌++◌, Option, Some, None, codes}
use Rattle.std.specs.Fmt.{decimal}
use Rattle.std.specs.List.{list_any}
use Rattle.frame_texts.specs.declared.ranges.Range.{Range}
use Rattle.frame_texts.specs.declared.ranges.Range.TheVariants.{Frames, Times}
use Rattle.frame_edits.specs.declared.words.Edit.{Edit}
use Rattle.frame_edits.specs.declared.words.Scope.{Scope}
use Rattle.frame_edits.specs.declared.words.Scope.TheVariants.{Exact, Boxed}
use Rattle.frame_messages.specs.declared.report.Bare.{Bare}

-- the frames of a box of a list, where an edit is one and has a frame
abbrev pub span_by : Scope → Range → Option (ℕ × ℕ)
span_by Exact range = None
span_by (Boxed margin) (Frames first end) = if nat_lt first end then Some (first, end) else None
span_by (Boxed margin) (Times from to) = None

abbrev pub box_span : Edit → Option (ℕ × ℕ)
box_span e = span_by e.scope e.range

abbrev pub is_in : Option (ℕ × ℕ) → ℕ → Bool
is_in None n = false
is_in (Some span) n = nat_le span.0 n && nat_lt n span.1

-- no box is for the frame of this number, from 0
abbrev pub is_bare : List Edit → ℕ → Bool
is_bare steps n = not (list_any (λ e. is_in (box_span e) n) steps)

-- how many of so many frames are such, and whether all of a stretch are
abbrev pub bare_count : (ℕ → Bool) → ℕ → ℕ
bare_count p zero = 0
bare_count p (suc n) = if p n then bare_count p n + 1 else bare_count p n

abbrev pub AreBare : (ℕ → Bool) → ℕ → ℕ → Type 0
AreBare p first end = (n : ℕ) → first ≤ n → n < end → p n ≡ true

-- how many of so many frames are such, and the first of the longest stretches of them
pub record AreCounted (p : ℕ → Bool) (count : ℕ) (bare : Bare) : Type 0 where
  pub frames : bare.frames ≡ bare_count p count
  pub there : AreBare p bare.first bare.end
  pub within : bare.end ≤ count
  pub longest : (a b : ℕ) → b ≤ count → AreBare p a b → b - a ≤ bare.end - bare.first
  pub earliest : (a b : ℕ) → a < b → b ≤ count → AreBare p a b → bare.end - bare.first ≤ b - a → bare.first ≤ a

-- what is printed of them, as a fault or a note: how many there are of so many, and a stretch, whose frames count from 1
abbrev pub bare_start : Bool → List ℕ
bare_start true = codes "fault box\n"
bare_start false = codes "note: "

abbrev pub bare_count_text : ℕ → Bare → List ℕ
bare_count_text count bare = decimal bare.frames ++ codes " of " ++ decimal count

abbrev pub stretch_text : Bare → List ℕ
stretch_text bare = codes "the longest stretch is " ++ decimal (min (bare.first + 1) 18446744073709551615) ++ codes " to " ++ decimal bare.end ++ 10 ∷ []

abbrev pub bare_text : Bool → ℕ → Bare → List ℕ
bare_text fault count bare = ((bare_start fault ++ bare_count_text count bare) ++ codes " frames have no box, ") ++ stretch_text bare

-- a box begins at this frame or later, and so do all
abbrev pub BeginsFrom : ℕ → Option (ℕ × ℕ) → Type 0
BeginsFrom low None = Unit {0}
BeginsFrom low (Some span) = low ≤ span.0

abbrev pub BeginFrom : ℕ → List Edit → Type 0
BeginFrom low [] = Unit {0}
BeginFrom low (e ∷ es) = BeginsFrom low (box_span e) × BeginFrom low es

-- they begin no earlier than a box, where there is one
abbrev pub BeginAfter : Option (ℕ × ℕ) → List Edit → Type 0
BeginAfter None es = Unit {0}
BeginAfter (Some span) es = BeginFrom span.0 es

-- boxes are in the order of their first frames
abbrev pub AreInOrder : List Edit → Type 0
AreInOrder [] = Unit {0}
AreInOrder (e ∷ es) = BeginAfter (box_span e) es × AreInOrder es
