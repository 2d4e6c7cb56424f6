-- A sum modulo 2^64 at each step, as the whole sum modulo 2^64.
use Rattle.std.proofs.Common.{◌≡◌, ℕ, ◌+◌, ◌<◌, ◌^◌, ◌%◌, ◌∙◌, arith, List, [], ◌∷◌, sum}
use Rattle.std.specs.List.{fold}
use Rattle.std.proofs.lemmas.List.Sums.{sum_by-cons}

abbrev pub wrapped : ℕ → ℕ → ℕ
wrapped sum x = (sum + x) % 2 ^ 64

pub wrapped_sum : (xs : List ℕ) (before : ℕ) → before < 2 ^ 64 → fold wrapped before xs ≡ (before + sum xs) % 2 ^ 64
wrapped_sum [] before small = omega (arith, small)
wrapped_sum (x ∷ xs) before small =
    wrapped_sum xs (wrapped before x) (omega arith) ∙ (let more : sum (x ∷ xs) ≡ x + sum xs = sum_by-cons (λ y. y) x xs in omega (arith, more))
