-- What is told of a run, as far as its input decides it: what was seen of it.
use Rattle.std.specs.Prelude.{◌≡◌, ◌≤◌, ◌==◌, ℕ, Bool, true, false, List, Option, Result, Ok, Err, IfOk, IfSome}
use Rattle.std.specs.List.{list_any}
use Rattle.std.specs.Option.{is_some}
use Rattle.frame_edits.specs.declared.words.Edit.{Edit}
use Rattle.frame_messages.specs.Bare.{AreCounted, AreInOrder, is_bare}
use Rattle.frame_messages.specs.Ending.{is_any_bare, is_other, nothing_found, status_after}
use Rattle.frame_messages.specs.Unreached.{is_unreached}
use Rattle.frame_messages.specs.declared.ending.Ending.{Ending}
use Rattle.frame_messages.specs.declared.ending.Found.{Found}
use Rattle.frame_requests.specs.declared.fault.RunFault.{RunFault}
use Rattle.frame_messages.specs.declared.places.Texts.{Texts}
use Rattle.frame_requests.specs.Seen.{FirstUncovered, IsAnyUncovered, SeeTheSame, Sees, last_seen, rate_seen, shape_seen}
use Rattle.frame_requests.specs.declared.seen.Seen.{Seen}
use Rattle.frame_requests.specs.declared.seen.Shape.{Shape}
use Rattle.frame_requests.specs.declared.seen.Uncovered.{Uncovered}

-- messages take the same of both: the shape that was read last, its number, and the rate
pub record TellTheSame (s t : Seen) : Type 0 where
  pub shape : shape_seen s ≡ shape_seen t
  pub last : last_seen s ≡ last_seen t
  pub rate : rate_seen s ≡ rate_seen t

abbrev pub OneTold : Type 0
OneTold = (steps : List Edit) (s t : Seen) → SeeTheSame steps s t → TellTheSame s t

-- by one list of shapes an edit covers nothing in one first frame, of one size
abbrev pub OneUncovered : Type 0
OneUncovered = (shapes : List (ℕ × Shape)) (e : Edit) (end : ℕ) (u v : Option Uncovered) → FirstUncovered shapes e end u → FirstUncovered shapes e end v → u ≡ v

-- ---- what a run ends as

-- what is found of so many frames, with these texts and edits, where this number is asked for
pub record IsFound (texts : Texts) (steps : List Edit) (asked : Option ℕ) (count : ℕ) (s : Seen) (f : Found) : Type 0 where
  pub counts : f.other_count ≡ is_other count asked texts
  pub bare : AreInOrder steps → is_some f.bare ≡ is_any_bare texts steps count
  pub stretch : AreInOrder steps → IfSome f.bare (AreCounted (is_bare steps) count)
  pub uncovered : (shapes : List (ℕ × Shape)) → Sees steps shapes s → last_seen s ≤ count → f.uncovered ≡ true → IsAnyUncovered shapes steps count
  pub covered : (shapes : List (ℕ × Shape)) → Sees steps shapes s → last_seen s ≤ count → f.uncovered ≡ false → IsAnyUncovered shapes steps count → ⊥
  pub unreached : f.unreached ≡ list_any (λ e. is_unreached count (rate_seen s) e) steps

-- the same by the result of a run: nothing is looked for where it has a fault, or what it made isn't on its disk
abbrev pub FoundAfter : Result ℕ RunFault → Bool → Texts → List Edit → Option ℕ → Seen → Found → Type 0
FoundAfter (Err fault) kept texts steps asked s f = f ≡ nothing_found
FoundAfter (Ok count) false texts steps asked s f = f ≡ nothing_found
FoundAfter (Ok count) true texts steps asked s f = IsFound texts steps asked count s f

-- what a run ends as, with these options
pub record IsEnding (strict boxes : Bool) (asked : Option ℕ) (texts : Texts) (steps : List Edit) (outcome : Result ℕ RunFault) (kept : Bool) (s : Seen) (e : Ending) : Type 0 where
  pub status : e.status ≡ status_after strict boxes outcome kept e.found
  pub named : e.is_named ≡ (e.status == 0)
  pub found : FoundAfter outcome kept texts steps asked s e.found

-- runs with one result that have seen the same end as one
abbrev pub OneEnding : Type 0
OneEnding =
    (strict boxes : Bool) (asked : Option ℕ) (texts : Texts) (steps : List Edit) (outcome : Result ℕ RunFault) (kept : Bool) (s t : Seen) (e f : Ending) → AreInOrder steps → SeeTheSame steps s t → IfOk outcome (λ count. last_seen s ≤ count)
    → IsEnding strict boxes asked texts steps outcome kept s e → IsEnding strict boxes asked texts steps outcome kept t f → e ≡ f
