-- Cells that are written one after the other.
use Rattle.std.proofs.Common.{◌≡◌, ℕ, ◌+◌, ◌<◌, List, length, set, Option, Some, sym, subst, arith, inl, inr}
use Rattle.std.specs.List.{slice_get}
use Rattle.std.proofs.lemmas.Bool.{cases_lt}
use Rattle.image_model.proofs.Cells.{slice_get-set_same, slice_get-set_other}

-- one more cell is right, where those before it are
pub one_set : {T : Type 0} (IsRight : ℕ → Option T → Type 0) (now : List T) (n : ℕ) (value : T) → n < length now → ((k : ℕ) → k < n → IsRight k (slice_get now k)) → IsRight n (Some value)
    → (k : ℕ) → k < n + 1 → IsRight k (slice_get (set now n value) k)
one_set IsRight now n value within before this k upto =
    elim (cases_lt k n) [
      | inl earlier ↦ subst (IsRight k) (sym (slice_get-set_other now n k value (λ e. absurd (omega (arith, e, earlier))))) (before k earlier)
      | inr last ↦
          let same : n ≡ k = omega (arith, upto, last) in
          subst (λ m. IsRight m (slice_get (set now n value) m)) same (subst (IsRight n) (sym (slice_get-set_same now n value within)) this)
    ]
