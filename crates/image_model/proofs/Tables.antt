-- Tables of numbers in turn.
use Rattle.std.proofs.Common.{◌≡◌, ℕ, zero, suc, ◌+◌, ◌<◌, ◌∷◌, map, refl, ap, ◌∙◌, arith, ap₂}
use Rattle.std.specs.List.{range_with_len}

-- two tables are equal if they agree place by place, each from its own number on
pub map_along : {X : Type 0} (f g : ℕ → X) (a b n : ℕ) → ((k : ℕ) → k < n → f (a + k) ≡ g (b + k)) → map f (range_with_len a n) ≡ map g (range_with_len b n)
map_along f g a b zero each = refl
map_along f g a b (suc n) each =
    let first : f a ≡ g b = let e : a ≡ a + 0 = omega arith in let e' : b + 0 ≡ b = omega arith in ap f e ∙ each 0 (omega arith) ∙ ap g e' in
    let rest = map_along f g (a + 1) (b + 1) n (λ k below.
    let e : a + 1 + k ≡ a + (k + 1) = omega arith in let e' : b + (k + 1) ≡ b + 1 + k = omega arith in
    ap f e ∙ each (k + 1) (omega arith) ∙ ap g e') in
    ap₂ (λ x xs. x ∷ xs) first rest
