-- Boxes of one track and one frame stay in their order, where boxes are sorted by frames and then by tracks.
use Rattle.std.proofs.Common.{◌≡◌, ℕ, Bool, true, false, not, ◌&&◌, ◌==◌, List, [], ◌∷◌, refl, sym, ◌∙◌, ap, arith, tests}
use Rattle.std.specs.List.{filter}
use Rattle.std.proofs.lemmas.List.Elements.{filter_agree}
use Rattle.std.specs.List.Sorted.{IsStableByKey}
use Rattle.std.specs.Ordering.{nat_cmp, is_lt}
use Rattle.frame_texts.specs.Tracks.{track_of, KeepTies}
use Rattle.frame_texts.specs.declared.boxes.Tracked.{Tracked}

filter_both : {X : Type 0} (p q : X → Bool) (xs : List X) → filter p (filter q xs) ≡ filter (λ x. q x && p x) xs
filter_both p q [] = refl
filter_both p q (x ∷ xs) = grind (arith, filter_both p q xs)

same_number : (i j : ℕ) → not (is_lt (nat_cmp i j)) && not (is_lt (nat_cmp j i)) ≡ (i == j)
same_number i j = grind (arith, tests)

-- what a stable sort by a number keeps
kept : {X : Type 0} (n : X → ℕ) (xs ys : List X) → IsStableByKey n nat_cmp xs ys → (x : X) → filter (λ y. n x == n y) ys ≡ filter (λ y. n x == n y) xs
kept n xs ys stable x =
    sym (filter_agree _ _ (λ y. same_number (n x) (n y)) ys) ∙ stable x ∙ filter_agree _ _ (λ y. same_number (n x) (n y)) xs

and_comm : (a b : Bool) → a && b ≡ b && a
and_comm false false = refl
and_comm false true = refl
and_comm true false = refl
and_comm true true = refl

-- two stable sorts keep what neither of their numbers tells apart
both_kept : {X : Type 0} (m n : X → ℕ) (xs ys zs : List X) → IsStableByKey m nat_cmp xs ys → IsStableByKey n nat_cmp ys zs
    → (x : X) → filter (λ y. n x == n y && m x == m y) zs ≡ filter (λ y. n x == n y && m x == m y) xs
both_kept m n xs ys zs first next x =
    sym (filter_both (λ y. m x == m y) (λ y. n x == n y) zs) ∙ ap (filter (λ y. m x == m y)) (kept n ys zs next x)
    ∙ filter_both (λ y. m x == m y) (λ y. n x == n y) ys
    ∙ filter_agree _ _ (λ y. and_comm (n x == n y) (m x == m y)) ys
    ∙ sym (filter_both (λ y. n x == n y) (λ y. m x == m y) ys) ∙ ap (filter (λ y. n x == n y)) (kept m xs ys first x)
    ∙ filter_both (λ y. n x == n y) (λ y. m x == m y) xs
    ∙ filter_agree _ _ (λ y. and_comm (m x == m y) (n x == n y)) xs

pub ties_kept : (old mid new : List Tracked) → IsStableByKey (λ b. b.frame) nat_cmp old mid → IsStableByKey track_of nat_cmp mid new → KeepTies old new
ties_kept old mid new first next b = both_kept (λ b. b.frame) track_of old mid new first next b
