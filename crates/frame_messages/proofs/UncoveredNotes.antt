-- Whether an edit covers nothing in a frame, one edit after the other.
use Rattle.std.proofs.Common.{◌≡◌, ◌<◌, ◌≤◌, ◌+◌, ℕ, true, false, List, Option, Some, None, is_some, length, refl, sym, ap, ◌∙◌, subst, arith, inl, inr}
use Rattle.std.specs.List.{slice_get}
use Rattle.std.proofs.lemmas.Bool.{cases_lt}
use Rattle.std.proofs.lemmas.Option.{slice_get_within}
use Rattle.texts.proofs.Options.{some_is}
use Rattle.frame_edits.specs.declared.words.Edit.{Edit}
use Rattle.frame_requests.specs.Seen.{IsAnyUncovered, IsOtherTold, NoneUncovered, is_told}
use Rattle.frame_requests.specs.declared.seen.Seen.{Seen}
use Rattle.frame_requests.specs.declared.seen.Shape.{Shape}

-- nothing was found for an edit: it covers nothing in no frame, or another is told of that does
pub record FoundNone (seen : Seen) (steps : List Edit) (shapes : List (ℕ × Shape)) (count at : ℕ) (e : Edit) : Type 0 where
  pub none : is_told seen at ≡ true → NoneUncovered shapes e count
  pub other : is_told seen at ≡ false → IsOtherTold seen steps shapes count

-- of the first so many edits nothing was found
abbrev pub Looked : Seen → List Edit → List (ℕ × Shape) → ℕ → ℕ → Type 0
Looked seen steps shapes count number = (at : ℕ) (e : Edit) → slice_get steps at ≡ Some e → at < number → FoundNone seen steps shapes count at e

pub none_of : {A : Type 0} (o : Option A) → is_some o ≡ false → o ≡ None
none_of None is = refl
none_of (Some x) is = absurd (let bad : true ≡ false = is in cc)

module _ (seen : Seen) (steps : List Edit) (shapes : List (ℕ × Shape)) (count : ℕ) where
  -- it has none
  pub looked_more : (number : ℕ) (edit : Edit) → slice_get steps number ≡ Some edit → FoundNone seen steps shapes count number edit → Looked seen steps shapes count number → Looked seen steps shapes count (number + 1)
  looked_more number edit is found looked at e there before = elim (cases_lt at number) [
    | inl early ↦ looked at e there early
    | inr from ↦ (
        let one : number ≡ at = omega (arith, from, before) in
        let same : edit ≡ e = some_is edit e (sym is ∙ ap (slice_get steps) one ∙ there) in
        subst (λ n. FoundNone seen steps shapes count n e) one (subst (FoundNone seen steps shapes count number) same found))
  ]

  none_told : (any : IsAnyUncovered shapes steps count) → FoundNone seen steps shapes count any.at any.edit → is_told seen any.at ≡ true → ⊥
  none_told any found told = found.none told any.frame any.before any.uncovered

  -- all were looked at
  pub looked_all : (number : ℕ) → length steps ≤ number → Looked seen steps shapes count number → IsAnyUncovered shapes steps count → ⊥
  looked_all number all looked any =
      let found : (a : IsAnyUncovered shapes steps count) → FoundNone seen steps shapes count a.at a.edit = λ a. looked a.at a.edit a.is (omega (arith, all, slice_get_within steps a.at a.edit a.is)) in
      elim (is_told seen any.at) as (λ b. is_told seen any.at ≡ b → ⊥) [
        | true ↦ λ told. none_told any (found any) told
        | false ↦ λ not. (let other = (found any).other not in none_told other.any (found other.any) other.told)
      ] refl
