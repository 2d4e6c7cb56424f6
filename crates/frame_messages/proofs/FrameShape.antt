-- The shape of a frame, by a list of shapes in the order of their frames.
use Rattle.std.proofs.Common.{◌≡◌, ◌<◌, ◌≤◌, ◌+◌, ◌-◌, ℕ, zero, suc, Bool, true, false, nat_le, List, [], ◌∷◌, reverse, Some, None, length, drop, get_or, refl, sym, ap, ◌∙◌, subst, arith, inl, inr}
use Rattle.std.specs.List.Sorted.{IsPartitionPoint, IsPartitionedBy}
use Rattle.std.proofs.lemmas.Bool.{cases_lt}
use Rattle.std.proofs.lemmas.List.{at_drop_all, at_drop_more, get_or-reverse, length-reverse}
use Rattle.frame_requests.specs.Seen.{AreUpTo, shape_at}
use Rattle.frame_requests.specs.declared.seen.Shape.{Shape}

le_true : (a b : ℕ) → a ≤ b → nat_le a b ≡ true
le_true a b order = grind (arith, order)

le_false : (a b : ℕ) → b < a → nat_le a b ≡ false
le_false a b order = grind (arith, order)

from_true : (a b : ℕ) → nat_le a b ≡ true → a ≤ b
from_true a b is = elim (cases_lt b a) [ inl less ↦ absurd (let bad : false ≡ true = sym (le_false a b less) ∙ is in cc) | inr order ↦ order ]

from_false : (a b : ℕ) → nat_le a b ≡ false → b < a
from_false a b is = elim (cases_lt b a) [ inl less ↦ less | inr order ↦ absurd (let bad : true ≡ false = sym (le_true a b order) ∙ is in cc) ]

-- ---- the order of the numbers

below : (r : List (ℕ × Shape)) (most : ℕ) → AreUpTo most r → (j : ℕ) (d : ℕ × Shape) → j < length r → (get_or r j d).0 ≤ most
below [] most up j d within = absurd (omega (arith, within))
below (s ∷ r) most up zero d within = up.0
below (s ∷ r) most up (suc j) d within = let b = below r s.0 up.1 j d (omega (arith, within)) in omega (arith, b, up.0)

falling : (r : List (ℕ × Shape)) (most : ℕ) → AreUpTo most r → (i j : ℕ) (d : ℕ × Shape) → i ≤ j → j < length r → (get_or r j d).0 ≤ (get_or r i d).0
falling [] most up i j d order within = absurd (omega (arith, within))
falling (s ∷ r) most up zero zero d order within = omega arith
falling (s ∷ r) most up zero (suc j) d order within = below r s.0 up.1 j d (omega (arith, within))
falling (s ∷ r) most up (suc i) zero d order within = absurd (omega (arith, order))
falling (s ∷ r) most up (suc i) (suc j) d order within = falling r s.0 up.1 i j d (omega (arith, order)) (omega (arith, within))

-- the same item from the other end
from_end : (ks : List (ℕ × Shape)) (i : ℕ) (d : ℕ × Shape) → i < length ks → get_or (reverse ks) (length ks - 1 - i) d ≡ get_or ks i d
from_end ks i d within =
    let back : length ks - 1 - (length ks - 1 - i) ≡ i = omega (arith, within) in
    get_or-reverse ks (length ks - 1 - i) d (omega (arith, within)) ∙ ap (λ k. get_or ks k d) back

module _ (ks : List (ℕ × Shape)) (frame most : ℕ) (up : AreUpTo most (reverse ks)) where
  begun : ℕ × Shape → Bool
  begun s = nat_le s.0 frame

  rising : (i j : ℕ) (d : ℕ × Shape) → i ≤ j → j < length ks → (get_or ks i d).0 ≤ (get_or ks j d).0
  rising i j d order within =
      let f = falling (reverse ks) most up (length ks - 1 - j) (length ks - 1 - i) d (omega (arith, order, within)) (omega (arith, within, order, length-reverse ks)) in
      subst (λ (s : ℕ × Shape). s.0 ≤ (get_or ks j d).0) (from_end ks i d (omega (arith, order, within))) (subst (λ (s : ℕ × Shape). (get_or (reverse ks) (length ks - 1 - i) d).0 ≤ s.0) (from_end ks j d within) f)

  pub parted : IsPartitionedBy (λ s. nat_le s.0 frame) ks
  parted i j d order within is = le_true (get_or ks i d).0 frame (let r = rising i j d order within in let b = from_true (get_or ks j d).0 frame is in omega (arith, r, b))

  -- shapes of later frames count for nothing
  passed : (r : List (ℕ × Shape)) (k : ℕ) (d : ℕ × Shape) → k ≤ length r → ((j : ℕ) → j < k → frame < (get_or r j d).0) → shape_at r frame ≡ shape_at (drop k r) frame
  passed r zero d within later = refl
  passed [] (suc k) d within later = absurd (omega (arith, within))
  passed (s ∷ r) (suc k) d within later =
      let first : frame < s.0 = later 0 (omega arith) in
      let skip : shape_at (s ∷ r) frame ≡ shape_at r frame = grind (arith, first) in
      skip ∙ passed r k d (omega (arith, within)) (λ j before. later (suc j) (omega (arith, before)))

  here : (r : List (ℕ × Shape)) (k : ℕ) (d : ℕ × Shape) → k < length r → (get_or r k d).0 ≤ frame → shape_at (drop k r) frame ≡ Some (get_or r k d).1
  here r k d within order =
      let first : shape_at (get_or r k d ∷ drop (k + 1) r) frame ≡ Some (get_or r k d).1 = grind (arith, order) in
      at_drop_more (λ l. shape_at l frame) r k d within ∙ first

  module _ (count : ℕ) (within : count ≤ length ks) (at : IsPartitionPoint (λ (s : ℕ × Shape). nat_le s.0 frame ≡ true) (λ (s : ℕ × Shape). nat_le s.0 frame ≡ false) ks count) (d : ℕ × Shape) where
    rest_later : (j : ℕ) → j < length ks - count → frame < (get_or (reverse ks) j d).0
    rest_later j before =
        let back : length ks - 1 - (length ks - 1 - j) ≡ j = omega (arith, before) in
        let same : get_or (reverse ks) j d ≡ get_or ks (length ks - 1 - j) d = get_or-reverse ks j d (omega (arith, before)) in
        subst (λ (s : ℕ × Shape). frame < s.0) (sym same) (from_false (get_or ks (length ks - 1 - j) d).0 frame (at.1 (length ks - 1 - j) d (omega (arith, before, within)) (omega (arith, before))))

    all_passed : shape_at (reverse ks) frame ≡ shape_at (drop (length ks - count) (reverse ks)) frame
    all_passed = passed (reverse ks) (length ks - count) d (omega (arith, length-reverse ks)) rest_later

    pub none_begun_at : count ≡ 0 → None ≡ shape_at (reverse ks) frame
    none_begun_at none = sym (all_passed ∙ at_drop_all (λ l. shape_at l frame) (reverse ks) (length ks - count) (omega (arith, none, length-reverse ks)))

    pub one_begun : 0 < count → Some (get_or ks (count - 1) d).1 ≡ shape_at (reverse ks) frame
    one_begun some =
        let index : length ks - 1 - (count - 1) ≡ length ks - count = omega (arith, some, within) in
        let last : get_or (reverse ks) (length ks - count) d ≡ get_or ks (count - 1) d = ap (λ k. get_or (reverse ks) k d) (sym index) ∙ from_end ks (count - 1) d (omega (arith, some, within)) in
        let order : (get_or (reverse ks) (length ks - count) d).0 ≤ frame = subst (λ (s : ℕ × Shape). s.0 ≤ frame) (sym last) (from_true (get_or ks (count - 1) d).0 frame (at.0 (count - 1) d (omega arith) (omega (arith, some)))) in
        sym (all_passed ∙ here (reverse ks) (length ks - count) d (omega (arith, some, within, length-reverse ks)) order ∙ ap (λ (s : ℕ × Shape). Some s.1) last)

pub none_begun : (ks : List (ℕ × Shape)) (frame most : ℕ) → AreUpTo most (reverse ks) → (count : ℕ) → count ≤ length ks → IsPartitionPoint (λ (s : ℕ × Shape). nat_le s.0 frame ≡ true) (λ (s : ℕ × Shape). nat_le s.0 frame ≡ false) ks count → count ≡ 0 → None ≡ shape_at (reverse ks) frame
none_begun [] frame most up count within at none = refl
none_begun (k ∷ ks) frame most up count within at none = none_begun_at (k ∷ ks) frame most up count within at k none
