-- Pixels that are added to a list, one by one and row by row.
use Rattle.std.proofs.Common.{◌≡◌, ℕ, ◌+◌, ◌*◌, ◌≤◌, List, [], ◌∷◌, ◌++◌, length, Some, sym, ap, subst, ◌∙◌, arith, inl, inr, length-append}
use Rattle.std.specs.List.{slice_get}
use Rattle.std.proofs.lemmas.Bool.{cases_lt}
use Rattle.std.proofs.Math.Nat.{mul-le-mul_right}
use Rattle.image_model.proofs.Cells.{slice_get-append_left, slice_get-append_right}
use Rattle.image_ops.specs.Made.{AddsRow, AreMade}

-- one pixel more
pub one_added : {T : Type 0} (answers : ℕ → T → Type 0) (old now : List T) (n : ℕ) (value : T) → AddsRow answers old now n → answers n value → AddsRow answers old (now ++ (value ∷ [])) (n + 1)
one_added answers old now n value so right = record {
  as_many = omega (arith, length-append now (value ∷ []), so.as_many);
  still = λ k below. slice_get-append_left now (value ∷ []) k (omega (arith, below, so.as_many)) ∙ so.still k below;
  each = λ x p upto is.
      elim (cases_lt x n) [
        | inl earlier ↦ so.each x p earlier (sym (slice_get-append_left now (value ∷ []) (length old + x) (omega (arith, earlier, so.as_many))) ∙ is)
        | inr last ↦
            let this : n ≡ x = omega (arith, upto, last) in
            let at : length old + x ≡ length now + 0 = omega (arith, this, so.as_many) in
            let same : Some value ≡ Some p = sym (slice_get-append_right now (value ∷ []) (length now) 0 (omega arith)) ∙ ap (slice_get (now ++ (value ∷ []))) (sym at) ∙ is in
            let is_value : value ≡ p = cc same in
            subst (λ m. answers m p) this (subst (answers n) is_value right)
      ];
}

-- one row more
pub row_added : {T : Type 0} (answers : ℕ → ℕ → T → Type 0) (width y : ℕ) (old new : List T) → AreMade answers width y old → AddsRow (λ x. answers x y) old new width → AreMade answers width (y + 1) new
row_added answers width y old new so row = record {
  as_many = omega (arith, so.as_many, row.as_many);
  each = λ x j p column upto is.
      elim (cases_lt j y) [
        | inl earlier ↦
            let next : (j + 1) * width ≤ y * width = mul-le-mul_right width (omega arith) in
            so.each x j p column earlier (sym (row.still (j * width + x) (omega (arith, next, column, so.as_many))) ∙ is)
        | inr last ↦
            let this : y ≡ j = omega (arith, upto, last) in
            let at : length old + x ≡ j * width + x = ap (λ n. n + x) (so.as_many ∙ ap (λ n. n * width) this) in
            subst (λ n. answers x n p) this (row.each x p column (ap (slice_get new) at ∙ is))
      ];
}
