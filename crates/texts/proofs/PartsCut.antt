-- Bytes that are cut where a byte first occurs.
use Rattle.std.proofs.Common.{◌≡◌, ℕ, ◌+◌, ◌-◌, ◌≤◌, Bool, true, false, cond, not, suc, List, [], ◌∷◌, length, take, drop, Some, None, refl, ap, arith}
use Rattle.std.specs.List.{slice_split, position, position_or_len, onto_first}
use Rattle.std.proofs.lemmas.List.{take_rest}
use Rattle.std.proofs.lemmas.List.Splits.{slice_split_first, length-slice_split}
use Rattle.std.proofs.lemmas.Bool.Decides.{nat_tests}

position_cases : (b : Bool) (n at : ℕ) → cond b (Some n) None ≡ Some at → (b ≡ true) × (n ≡ at)
position_cases true n at e = (refl, cc)
position_cases false n at e = absurd cc

no_position : (b : Bool) (n : ℕ) → cond b (Some n) None ≡ None → b ≡ false
no_position true n e = absurd cc
no_position false n e = refl

pub slice_split-at : (p : ℕ → Bool) (xs : List ℕ) (at : ℕ) → position p xs ≡ Some at → slice_split p xs ≡ take at xs ∷ slice_split p (take (length xs - (at + 1)) (drop (at + 1) xs))
slice_split-at p xs at e = grind (arith, take_rest, slice_split_first, nat_tests, position_cases)

split_none_step : (p : ℕ → Bool) (b : Bool) (x : ℕ) (xs : List ℕ) (n : ℕ) → suc (length xs) ≤ cond (not b) (1 + n) 0 → (length xs ≤ n → slice_split p xs ≡ xs ∷ [])
    → cond b ([] ∷ slice_split p xs) (onto_first x (slice_split p xs)) ≡ (x ∷ xs) ∷ []
split_none_step p true x xs n h rest = absurd (omega arith)
split_none_step p false x xs n h rest = rw (rest (omega arith)) refl

split_none : (p : ℕ → Bool) (xs : List ℕ) → length xs ≤ position_or_len p xs → slice_split p xs ≡ xs ∷ []
split_none p [] h = refl
split_none p (x ∷ xs) h = split_none_step p (p x) x xs (position_or_len p xs) h (split_none p xs)

pub slice_split-whole : (p : ℕ → Bool) (xs : List ℕ) → position p xs ≡ None → slice_split p xs ≡ xs ∷ []
slice_split-whole p xs e = grind (arith, nat_tests, no_position, split_none)

pub split_nonempty : (p : ℕ → Bool) (xs : List ℕ) → slice_split p xs ≡ [] → ⊥
split_nonempty p xs e = omega (arith, length-slice_split p xs, ap length e)
