-- The pairs of edits that may show pixels and of later ones that hide them are looked for among these alone.
use Rattle.std.proofs.Common.{◌≡◌, ◌↔◌, ℕ, ◌+◌, ◌<◌, ◌≤◌, ◌&&◌, ◌||◌, Bool, true, false, not, if◌then◌else◌, List, [], ◌∷◌, ◌++◌, length, drop, get_or, refl, sym, ap, ◌∙◌, append_assoc}
use Rattle.std.specs.List.{list_any}
use Rattle.std.proofs.lemmas.List.{append-nil, at_drop_more, at_drop_all}
use Rattle.image_commands.specs.declared.changes.Change.{Change}
use Rattle.frame_edits.specs.Order.{covers_first, fills_late}
use Rattle.frame_edits.specs.declared.paint.Paint.{Paint}
use Rattle.frame_edits.specs.declared.words.Edit.{Edit}
use Rattle.frame_requests.specs.Late.{hides, hiding_from, is_early, is_late, left_after, numbered, pairs_among, pairs_from, pairs_with, spoils}
use Rattle.frame_requests.specs.declared.late.Hiding.{Hiding}
use Rattle.frame_requests.specs.declared.late.Hiding.TheVariants.{Fills, Mosaics, Means}
use Rattle.frame_requests.specs.declared.late.Numbered.{Numbered}

-- ---- one change and another

not_spoiled : (hiding : Hiding) (before c : Change Paint) → hides hiding c ≡ false → spoils hiding before c ≡ false
unfolding spoils
not_spoiled hiding before c none = rw none (neither (is_early hiding before))
  where
    neither : (b : Bool) → b && false ≡ false
    neither true = refl
    neither false = refl

not_spoiling : (hiding : Hiding) (before c : Change Paint) → is_early hiding before ≡ false → spoils hiding before c ≡ false
unfolding spoils
not_spoiling hiding before c none = rw none refl

-- ---- the pairs of one edit

among : (hiding : Hiding) (number : ℕ) (before : Edit) (first : ℕ) (es : List Edit) → pairs_among hiding number before (hiding_from hiding first es) ≡ pairs_with hiding number before first es
unfolding is_late pairs_among hiding_from pairs_with
among hiding number before first [] = refl
among hiding number before first (e ∷ es) =
    elim (hides hiding e.change) as (λ b. hides hiding e.change ≡ b → pairs_among hiding number before (if b then numbered first e ∷ hiding_from hiding (first + 1) es else hiding_from hiding (first + 1) es) ≡ pairs_with hiding number before first (e ∷ es)) [
      | true ↦ λ is. ap (λ l. if is_late hiding before e then (number, first) ∷ l else l) (among hiding number before (first + 1) es)
      | false ↦ λ none. among hiding number before (first + 1) es ∙ (let no = not_spoiled hiding before.change e.change none in rw no refl)
    ] refl

none_of_others : (hiding : Hiding) (number : ℕ) (before : Edit) (others : List Numbered) → is_early hiding before.change ≡ false → pairs_among hiding number before others ≡ []
unfolding is_late pairs_among
none_of_others hiding number before [] none = refl
none_of_others hiding number before (o ∷ os) none = let no = not_spoiling hiding before.change o.edit.change none in rw no (none_of_others hiding number before os none)

pub none_among : (hiding : Hiding) (number : ℕ) (before : Edit) (others : List Numbered) (front : List (ℕ × ℕ)) → is_early hiding before.change ≡ false → front ≡ front ++ pairs_among hiding number before others
none_among hiding number before others front none = sym (ap (λ l. front ++ l) (none_of_others hiding number before others none) ∙ append-nil front)

-- ---- one edit after the other

pub one_kept : (hiding : Hiding) (front : List Numbered) (xs : List Edit) (i : ℕ) (d : Edit) (total : List Numbered) → i < length xs → hides hiding (get_or xs i d).change ≡ true
    → front ++ hiding_from hiding i (drop i xs) ≡ total → (front ++ numbered i (get_or xs i d) ∷ []) ++ hiding_from hiding (i + 1) (drop (i + 1) xs) ≡ total
unfolding hiding_from
one_kept hiding front xs i d total within here so_far =
    append_assoc front (numbered i (get_or xs i d) ∷ []) (hiding_from hiding (i + 1) (drop (i + 1) xs))
    ∙ sym (at_drop_more (λ ys. front ++ hiding_from hiding i ys) xs i d within ∙ rw here refl) ∙ so_far

pub one_left : (hiding : Hiding) (front : List Numbered) (xs : List Edit) (i : ℕ) (d : Edit) (total : List Numbered) → i < length xs → hides hiding (get_or xs i d).change ≡ false
    → front ++ hiding_from hiding i (drop i xs) ≡ total → front ++ hiding_from hiding (i + 1) (drop (i + 1) xs) ≡ total
unfolding hiding_from
one_left hiding front xs i d total within here so_far = sym (at_drop_more (λ ys. front ++ hiding_from hiding i ys) xs i d within ∙ rw here refl) ∙ so_far

pub all_kept : (hiding : Hiding) (front : List Numbered) (xs : List Edit) (i : ℕ) (total : List Numbered) → length xs ≤ i → front ++ hiding_from hiding i (drop i xs) ≡ total → front ≡ total
unfolding hiding_from
all_kept hiding front xs i total past so_far = sym (append-nil front) ∙ sym (at_drop_all (λ ys. front ++ hiding_from hiding i ys) xs i past) ∙ so_far

-- ---- one later edit after the other

pub pair_added : (hiding : Hiding) (number : ℕ) (before : Edit) (front : List (ℕ × ℕ)) (xs : List Numbered) (i : ℕ) (d : Numbered) (total : List (ℕ × ℕ)) → i < length xs → is_late hiding before (get_or xs i d).edit ≡ true
    → front ++ pairs_among hiding number before (drop i xs) ≡ total → (front ++ (number, (get_or xs i d).number) ∷ []) ++ pairs_among hiding number before (drop (i + 1) xs) ≡ total
unfolding pairs_among
pair_added hiding number before front xs i d total within here so_far =
    append_assoc front ((number, (get_or xs i d).number) ∷ []) (pairs_among hiding number before (drop (i + 1) xs))
    ∙ sym (at_drop_more (λ ys. front ++ pairs_among hiding number before ys) xs i d within ∙ rw here refl) ∙ so_far

pub no_pair : (hiding : Hiding) (number : ℕ) (before : Edit) (front : List (ℕ × ℕ)) (xs : List Numbered) (i : ℕ) (d : Numbered) (total : List (ℕ × ℕ)) → i < length xs → is_late hiding before (get_or xs i d).edit ≡ false
    → front ++ pairs_among hiding number before (drop i xs) ≡ total → front ++ pairs_among hiding number before (drop (i + 1) xs) ≡ total
unfolding pairs_among
no_pair hiding number before front xs i d total within here so_far = sym (at_drop_more (λ ys. front ++ pairs_among hiding number before ys) xs i d within ∙ rw here refl) ∙ so_far

pub all_paired : (hiding : Hiding) (number : ℕ) (before : Edit) (front : List (ℕ × ℕ)) (xs : List Numbered) (i : ℕ) (total : List (ℕ × ℕ)) → length xs ≤ i → front ++ pairs_among hiding number before (drop i xs) ≡ total → front ≡ total
unfolding pairs_among
all_paired hiding number before front xs i total past so_far = sym (append-nil front) ∙ sym (at_drop_all (λ ys. front ++ pairs_among hiding number before ys) xs i past) ∙ so_far

-- ---- all pairs

-- those of one edit more
pub pairs_more : (hiding : Hiding) (front : List (ℕ × ℕ)) (xs : List Edit) (i : ℕ) (d : Edit) (rest : List Numbered) (total : List (ℕ × ℕ)) → i < length xs → rest ≡ hiding_from hiding (i + 1) (drop (i + 1) xs)
    → front ++ pairs_from hiding i (drop i xs) ≡ total → (front ++ pairs_among hiding i (get_or xs i d) rest) ++ pairs_from hiding (i + 1) (drop (i + 1) xs) ≡ total
unfolding pairs_from
pairs_more hiding front xs i d rest total within are so_far =
    append_assoc front (pairs_among hiding i (get_or xs i d) rest) (pairs_from hiding (i + 1) (drop (i + 1) xs))
    ∙ ap (λ l. front ++ (l ++ pairs_from hiding (i + 1) (drop (i + 1) xs))) (ap (pairs_among hiding i (get_or xs i d)) are ∙ among hiding i (get_or xs i d) (i + 1) (drop (i + 1) xs))
    ∙ sym (at_drop_more (λ ys. front ++ pairs_from hiding i ys) xs i d within) ∙ so_far

pub pairs_done : (hiding : Hiding) (front : List (ℕ × ℕ)) (xs : List Edit) (i : ℕ) (total : List (ℕ × ℕ)) → length xs ≤ i → front ++ pairs_from hiding i (drop i xs) ≡ total → front ≡ total
unfolding pairs_from
pairs_done hiding front xs i total past so_far = sym (append-nil front) ∙ sym (at_drop_all (λ ys. front ++ pairs_from hiding i ys) xs i past) ∙ so_far

-- the later edits that are left after one more
pub rest_left : (hiding : Hiding) (rest : List Numbered) (xs : List Edit) (i : ℕ) (d : Edit) → i < length xs → rest ≡ hiding_from hiding i (drop i xs) → left_after hiding (get_or xs i d) rest ≡ hiding_from hiding (i + 1) (drop (i + 1) xs)
unfolding hiding_from
rest_left hiding rest xs i d within is =
    ap (left_after hiding (get_or xs i d)) (is ∙ at_drop_more (hiding_from hiding i) xs i d within) ∙
    (elim (hides hiding (get_or xs i d).change) as (λ b. (if b then drop 1 (if b then numbered i (get_or xs i d) ∷ hiding_from hiding (i + 1) (drop (i + 1) xs) else hiding_from hiding (i + 1) (drop (i + 1) xs))
    else (if b then numbered i (get_or xs i d) ∷ hiding_from hiding (i + 1) (drop (i + 1) xs) else hiding_from hiding (i + 1) (drop (i + 1) xs))) ≡ hiding_from hiding (i + 1) (drop (i + 1) xs)) [ true ↦ refl | false ↦ refl ])

-- ---- no pair

not_false : (b : Bool) → not b ≡ true → b ≡ false
not_false true e = cc
not_false false e = refl

both : (a b : Bool) → a && b ≡ true → (a ≡ true) × (b ≡ true)
both true b e = (refl, e)
both false b e = cc

nil_parts : (xs ys : List (ℕ × ℕ)) → xs ++ ys ≡ [] → (xs ≡ []) × (ys ≡ [])
nil_parts [] ys e = (refl, e)
nil_parts (x ∷ xs) ys e = absurd cc

with_none : (number : ℕ) (before : Edit) (first : ℕ) (es : List Edit) → pairs_with Fills number before first es ≡ [] → list_any (λ later. fills_late before later) es ≡ false
unfolding is_late pairs_with spoils
with_none number before first [] none = refl
with_none number before first (e ∷ es) none = elim (is_late Fills before e) as (λ b. is_late Fills before e ≡ b → (if b then (number, first) ∷ pairs_with Fills number before (first + 1) es else pairs_with Fills number before (first + 1) es) ≡ [] → list_any (λ later. fills_late before later) (e ∷ es) ≡ false) [
  | true ↦ λ is some. absurd cc
  | false ↦ λ is none. rw is (with_none number before (first + 1) es none)
] refl none

none_then : (number : ℕ) (before : Edit) (first : ℕ) (es : List Edit) → list_any (λ later. fills_late before later) es ≡ false → pairs_with Fills number before first es ≡ []
unfolding is_late pairs_with spoils
none_then number before first [] none = refl
none_then number before first (e ∷ es) none = elim (fills_late before e) as (λ b. fills_late before e ≡ b → b || list_any (λ later. fills_late before later) es ≡ false → pairs_with Fills number before first (e ∷ es) ≡ []) [
  | true ↦ λ is some. absurd cc
  | false ↦ λ is none. rw is (none_then number before (first + 1) es none)
] refl none

first_where_none : (number : ℕ) (es : List Edit) → pairs_from Fills number es ≡ [] → covers_first es ≡ true
unfolding pairs_from
first_where_none number [] none = refl
first_where_none number (e ∷ es) none =
    let parts = nil_parts (pairs_with Fills number e (number + 1) es) (pairs_from Fills (number + 1) es) none in
    let here = with_none number e (number + 1) es parts.0 in
    rw here (first_where_none (number + 1) es parts.1)

none_where_first : (number : ℕ) (es : List Edit) → covers_first es ≡ true → pairs_from Fills number es ≡ []
unfolding pairs_from
none_where_first number [] first = refl
none_where_first number (e ∷ es) first =
    let parts = both (not (list_any (λ later. fills_late e later) es)) (covers_first es) first in
    let here = none_then number e (number + 1) es (not_false (list_any (λ later. fills_late e later) es) parts.0) in
    rw here (none_where_first (number + 1) es parts.1)

-- there is none exactly where covers and fills come first
pub none_exactly : (hiding : Hiding) (pairs : List (ℕ × ℕ)) (es : List Edit) → pairs ≡ pairs_from hiding 0 es → hiding ≡ Fills → (pairs ≡ []) ↔ (covers_first es ≡ true)
none_exactly Fills pairs es are is = (λ none. first_where_none 0 es (sym are ∙ none), λ first. are ∙ none_where_first 0 es first)
none_exactly Mosaics pairs es are is = absurd cc
none_exactly Means pairs es are is = absurd cc
