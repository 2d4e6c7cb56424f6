-- The shapes that are kept for a report are those of the frames.
use Rattle.std.proofs.Common.{◌≡◌, ◌≤◌, ℕ, nat_lt, if◌then◌else◌, List, [], ◌∷◌, ◌++◌, reverse, Option, Some, None, IfSome, refl, sym, ap, ◌∙◌, subst, arith, inl, inr}
use Rattle.std.proofs.lemmas.Bool.{cases_lt}
use Rattle.std.proofs.lemmas.List.{reverse-append}
use Rattle.frame_requests.specs.Seen.{AreKept, AreUpTo, KeepsShape, shape_at}
use Rattle.frame_requests.specs.declared.seen.Shape.{Shape}
use Rattle.frame_requests.proofs.FirstUncovered.{shape_before, shape_from}

pub none_kept : (most : ℕ) (kept : List (ℕ × Shape)) → kept ≡ [] → AreKept [] most kept
none_kept most [] none = record { same = λ n. refl; in_order = tt }
none_kept most (s ∷ kept) none = absurd (cc)

up_to_more : (a b : ℕ) → a ≤ b → (shapes : List (ℕ × Shape)) → AreUpTo a shapes → AreUpTo b shapes
up_to_more a b order [] all = tt
up_to_more a b order (s ∷ older) all = (omega (arith, order, all.0), all.1)

module _ (shapes : List (ℕ × Shape)) (most number : ℕ) (shape : Shape) (order : most ≤ number) where
  -- the last shape was seen again
  again : (kept : List (ℕ × Shape)) → ((n : ℕ) → most ≤ n → shape_at shapes n ≡ Some shape) → AreKept shapes most kept → AreKept ((number, shape) ∷ shapes) most kept
  again kept last are = record {
    same = λ n. elim (cases_lt n number) [
      | inl before ↦ are.same n ∙ sym (shape_before shapes number shape n before)
      | inr from ↦ are.same n ∙ last n (omega (arith, order, from)) ∙ sym (shape_from shapes number shape n from)
    ];
    in_order = are.in_order;
  }

  pub kept_again : ((n : ℕ) → most ≤ n → shape_at shapes n ≡ Some shape) → (kept : Option (List (ℕ × Shape))) → IfSome kept (AreKept shapes most) → IfSome kept (AreKept ((number, shape) ∷ shapes) most)
  kept_again last None are = tt
  kept_again last (Some kept) are = again kept last are

  -- another was seen
  one_more : (kept : List (ℕ × Shape)) → AreKept shapes most kept → AreKept ((number, shape) ∷ shapes) number (kept ++ (number, shape) ∷ [])
  one_more kept are =
      let last : reverse (kept ++ (number, shape) ∷ []) ≡ (number, shape) ∷ reverse kept = reverse-append kept ((number, shape) ∷ []) in
      record {
        same = λ n. ap (λ l. shape_at l n) last ∙ ap (λ (o : Option Shape). if nat_lt n number then o else Some shape) (are.same n);
        in_order = subst (AreUpTo number) (sym last) (omega arith, up_to_more most number order (reverse kept) are.in_order);
      }

  pub kept_more : (old new : Option (List (ℕ × Shape))) → KeepsShape (number, shape) old new → IfSome old (AreKept shapes most) → IfSome new (AreKept ((number, shape) ∷ shapes) number)
  kept_more old None keeps are = tt
  kept_more None (Some new) keeps are = absurd keeps
  kept_more (Some old) (Some new) keeps are = subst (AreKept ((number, shape) ∷ shapes) number) (sym keeps) (one_more old are)
