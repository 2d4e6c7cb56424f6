-- What a loop over pixels has called a closure with.
use Rattle.std.proofs.Common.{◌≡◌, ℕ, ◌+◌, ◌<◌, Option, Some, sym, ap, ◌∙◌, arith, ⊎_elim}
use Rattle.std.proofs.lemmas.Bool.Decides.{eqb_tells}

module _ {T : Type 0} (holds : T → Type 0) where
  -- one row more
  pub one_row : (at : ℕ → ℕ → Option T) (width y : ℕ) → ((u : ℕ) (p : T) → u < width → at u y ≡ Some p → holds p) → ((u v : ℕ) (p : T) → u < width → v < y → at u v ≡ Some p → holds p)
      → (u v : ℕ) (p : T) → u < width → v < y + 1 → at u v ≡ Some p → holds p
  one_row at width y row before u v p column below there = ⊎_elim
      (λ s. row u p column (ap (at u) (sym s.1) ∙ there))
      (λ o. before u v p column (omega (arith, below, o.1)) there)
      (eqb_tells v y)
