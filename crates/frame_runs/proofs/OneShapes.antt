-- Two lists of shapes by which each frame has the same shape are one to what was seen.
use Rattle.std.proofs.Common.{◌≡◌, ◌≤◌, ◌<◌, ◌+◌, ℕ, zero, suc, List, [], ◌∷◌, Option, Some, None, IfSome, length, refl, sym, ap, ◌∙◌, arith, inl, inr}
use Rattle.std.specs.List.{slice_get}
use Rattle.std.proofs.lemmas.Bool.{cases_lt}
use Rattle.std.proofs.lemmas.Option.{slice_get_cases}
use Rattle.texts.proofs.Options.{some_is}
use Rattle.frame_edits.specs.declared.words.Edit.{Edit}
use Rattle.frame_texts.specs.declared.picture.Picture.{Picture}
use Rattle.frame_requests.specs.Seen.{AreKept, FirstUncovered, IsUncoveredAt, Knows, Sees, kept_shapes, known_of, last_number, shape_at}
use Rattle.frame_requests.specs.declared.seen.Known.{Known}
use Rattle.frame_requests.specs.declared.seen.Seen.{Seen}
use Rattle.frame_requests.specs.declared.seen.Shape.{Shape}
use Rattle.frame_requests.specs.declared.seen.Shape.TheVariants as shape
use Rattle.frame_requests.specs.declared.seen.Uncovered.{Uncovered}
use Rattle.frame_runs.specs.Seen.{HasShape, next_number}
use Rattle.frame_runs.specs.Stream.{Piece}

-- each frame has one shape by both
abbrev pub SameShapes : List (ℕ × Shape) → List (ℕ × Shape) → Type 0
SameShapes shapes others = (n : ℕ) → shape_at shapes n ≡ shape_at others n

if_some : {A : Type 0} (P Q : A → Type 0) → ((x : A) → P x → Q x) → (o : Option A) → IfSome o P → IfSome o Q
if_some P Q f None p = tt
if_some P Q f (Some x) p = f x p

uncovered_too : (shapes others : List (ℕ × Shape)) → SameShapes shapes others → (e : Edit) (n : ℕ) → IsUncoveredAt shapes e n → IsUncoveredAt others e n
uncovered_too shapes others same e n u = record { shape = u.shape; there = sym (same n) ∙ u.there; uncovered = u.uncovered }

first_too : (shapes others : List (ℕ × Shape)) → SameShapes shapes others → (e : Edit) (end : ℕ) (found : Option Uncovered) → FirstUncovered shapes e end found → FirstUncovered others e end found
unfolding uncovered_too
first_too shapes others same e end (Some u) is = record {
  there = uncovered_too shapes others same e u.frame is.there;
  before = is.before;
  first = λ n v. is.first n (uncovered_too others shapes (λ k. sym (same k)) e n v);
  size = is.size;
}
first_too shapes others same e end None is = λ n before u. is n before (uncovered_too others shapes (λ k. sym (same k)) e n u)

knows_too : (shapes others : List (ℕ × Shape)) → SameShapes shapes others → (k : Known) (steps : List Edit) (end : ℕ) → Knows k steps shapes (λ at. end) → Knows k steps others (λ at. end)
knows_too shapes others same k steps end knows = record {
  right = λ at e is. if_some (FirstUncovered shapes e end) (FirstUncovered others e end) (first_too shapes others same e end) (known_of k at) (knows.right at e is);
  other = knows.other;
}

kept_too : (shapes others : List (ℕ × Shape)) → SameShapes shapes others → (most : ℕ) (kept : List (ℕ × Shape)) → AreKept shapes most kept → AreKept others most kept
kept_too shapes others same most kept are = record { same = λ n. are.same n ∙ same n; in_order = are.in_order }

pub sees_too : (shapes others : List (ℕ × Shape)) → SameShapes shapes others → last_number shapes ≡ last_number others → (steps : List Edit) (s : Seen) → Sees steps shapes s → Sees steps others s
sees_too shapes others same last steps s sees = record {
  last_shape = λ n from. sym (same n) ∙ sees.last_shape n from;
  last = sees.last ∙ last;
  within = sees.within;
  knows = knows_too shapes others same s.known steps s.first sees.knows;
  kept = if_some (AreKept shapes s.first) (AreKept others s.first) (kept_too shapes others same s.first) (kept_shapes s) sees.kept;
}

-- ---- shapes of the same pictures

pub last_numbers : (shapes others : List (ℕ × Shape)) → next_number shapes ≡ next_number others → last_number shapes ≡ last_number others
last_numbers [] [] e = refl
last_numbers [] (o ∷ others) e = omega (arith, e)
last_numbers (s ∷ shapes) [] e = omega (arith, e)
last_numbers (s ∷ shapes) (o ∷ others) e = omega (arith, e)

-- frames from the last shape on
from_last : (shapes : List (ℕ × Shape)) (n m : ℕ) → next_number shapes ≤ n + 1 → next_number shapes ≤ m + 1 → shape_at shapes n ≡ shape_at shapes m
from_last [] n m from also = refl
from_last (s ∷ shapes) n m from also = grind (arith, from, also)

none_of : (shapes : List (ℕ × Shape)) → next_number shapes ≡ 0 → shapes ≡ []
none_of [] e = refl
none_of (s ∷ shapes) e = absurd (omega (arith, e))

module _ (shapes others : List (ℕ × Shape)) where
  -- a picture has one shape
  one_shape : (n : ℕ) (p : Piece) → HasShape shapes n p → HasShape others n p → shape_at shapes n ≡ shape_at others n
  one_shape n p h k =
      let one : h.picture ≡ k.picture = some_is h.picture k.picture (sym h.is.named ∙ k.is.named) in
      h.there ∙ ap (λ (picture : Picture). Some (shape.Picture picture)) one ∙ sym k.there

  module _ (pieces : List Piece) (have : (n : ℕ) (p : Piece) → slice_get pieces n ≡ Some p → HasShape shapes n p) (have_others : (n : ℕ) (p : Piece) → slice_get pieces n ≡ Some p → HasShape others n p) (next : next_number shapes ≡ length pieces) (next_others : next_number others ≡ length pieces) where
    within : (n : ℕ) → n < length pieces → shape_at shapes n ≡ shape_at others n
    within n before = elim (slice_get_cases pieces n).1 [
      | inl found ↦ one_shape n found.0 (have n found.0 found.2) (have_others n found.0 found.2)
      | inr past ↦ absurd (omega (arith, past.0, before))
    ]

    past : (m : ℕ) → length pieces ≡ m → (n : ℕ) → m ≤ n → shape_at shapes n ≡ shape_at others n
    past zero count n from = (λ i. shape_at (none_of shapes (next ∙ count) i) n) ∙ sym (λ i. shape_at (none_of others (next_others ∙ count) i) n)
    past (suc m) count n from = from_last shapes n m (omega (arith, next, count, from)) (omega (arith, next, count)) ∙ within m (omega (arith, count)) ∙ sym (from_last others n m (omega (arith, next_others, count, from)) (omega (arith, next_others, count)))

    pub same_shapes : SameShapes shapes others
    same_shapes n = elim (cases_lt n (length pieces)) [
      | inl before ↦ within n before
      | inr from ↦ past (length pieces) refl n from
    ]
