-- The first place at which a test passes: counted from the beginning, and found among the first bytes or after them.
use Rattle.std.proofs.Common.{◌≡◌, ℕ, zero, suc, ◌+◌, ◌<◌, ◌≤◌, ◌-◌, Bool, true, false, not, cond, List, [], ◌∷◌, length, take, drop, Option, Some, None, refl, ap, ◌∙◌, arith}
use Rattle.std.specs.List.{position, position_from, position_or_len}
use Rattle.std.proofs.lemmas.List.{length-drop, drop_all}
use Rattle.std.proofs.lemmas.Iterator.Adapters.{position_from-zero}

pub counted_from_zero : (test : ℕ → Bool) (xs : List ℕ) → position test xs ≡ position_from test 0 xs
counted_from_zero test xs = position_from-zero test xs

-- the first element isn't counted where the test passes
passed_over : (b : Bool) (m n : ℕ) → cond (not b) (1 + m) 0 ≡ suc n → (b ≡ false) × (m ≡ n)
passed_over true m n e = absurd (omega arith)
passed_over false m n e = (refl, omega arith)

-- where the test passes at none of the first n, the place is among the others
pub none_before : (test : ℕ → Bool) (n at : ℕ) (xs : List ℕ) → position_or_len test (take n xs) ≡ n → position_from test at xs ≡ position_from test (at + n) (drop n xs)
none_before test zero at xs none = let e : at ≡ at + 0 = omega arith in ap (λ k. position_from test k xs) e
none_before test (suc n) at [] none = absurd (omega arith)
none_before test (suc n) at (x ∷ xs) none =
    let first = passed_over (test x) (position_or_len test (take n xs)) n none in
    let e : at + 1 + n ≡ at + suc n = omega arith in
    rw first.0 (none_before test n (at + 1) xs first.1 ∙ ap (λ k. position_from test k (drop n xs)) e)

here_or_later : (b : Bool) (at m n : ℕ) (others : Option ℕ) → cond (not b) (1 + m) 0 < suc n → (m < n → others ≡ Some (at + 1 + m)) → cond b (Some at) others ≡ Some (at + cond (not b) (1 + m) 0)
here_or_later true at m n others few later = let e : at ≡ at + 0 = omega arith in ap (λ k. Some k) e
here_or_later false at m n others few later = let e : at + 1 + m ≡ at + (1 + m) = omega arith in later (omega arith) ∙ ap (λ k. Some k) e

-- where it passes at one of the first n, the first such place is found
pub first_within : (test : ℕ → Bool) (n at : ℕ) (xs : List ℕ) → n ≤ length xs → position_or_len test (take n xs) < n → position_from test at xs ≡ Some (at + position_or_len test (take n xs))
first_within test zero at xs long few = absurd (omega arith)
first_within test (suc n) at [] long few = absurd (omega arith)
first_within test (suc n) at (x ∷ xs) long few =
    here_or_later (test x) at (position_or_len test (take n xs)) n (position_from test (at + 1) xs) few (λ less. first_within test n (at + 1) xs (omega arith) less)

none_here : (b : Bool) (m n : ℕ) → suc n ≤ cond (not b) (1 + m) 0 → (b ≡ false) × (n ≤ m)
none_here true m n e = absurd (omega arith)
none_here false m n e = (refl, omega arith)

-- where the test passes at none of the first n, it passes at none of the first k
none_of_fewer : (test : ℕ → Bool) (k n : ℕ) (xs : List ℕ) → k ≤ n → n ≤ position_or_len test (take n xs) → position_or_len test (take k xs) ≡ k
none_of_fewer test zero n xs few none = refl
none_of_fewer test (suc k) zero xs few none = absurd (omega arith)
none_of_fewer test (suc k) (suc n) [] few none = absurd (omega arith)
none_of_fewer test (suc k) (suc n) (x ∷ xs) few none =
    let here = none_here (test x) (position_or_len test (take n xs)) n none in
    rw here.0 (omega (arith, none_of_fewer test k n xs (omega arith) here.1))

-- the same where the first n and the last n are all
pub first_of_last : (test : ℕ → Bool) (n at : ℕ) (xs : List ℕ) → n ≤ length xs → length xs ≤ n + n → n ≤ position_or_len test (take n xs)
    → position_or_len test (take n (drop (length xs - n) xs)) < n → position_from test at xs ≡ Some (at + (length xs - n) + position_or_len test (take n (drop (length xs - n) xs)))
first_of_last test n at xs long short none few =
    let k = length xs - n in
    none_before test k at xs (none_of_fewer test k n xs (omega arith) none) ∙ first_within test n (at + k) (drop k xs) (omega (arith, length-drop k xs)) few

pub nowhere : (test : ℕ → Bool) (n at : ℕ) (xs : List ℕ) → n ≤ length xs → length xs ≤ n + n → n ≤ position_or_len test (take n xs)
    → n ≤ position_or_len test (take n (drop (length xs - n) xs)) → position_from test at xs ≡ None
nowhere test n at xs long short none later =
    let k = length xs - n in
    none_before test k at xs (none_of_fewer test k n xs (omega arith) none) ∙ none_before test n (at + k) (drop k xs) (none_of_fewer test n n (drop k xs) (omega arith) later)
    ∙ ap (position_from test (at + k + n)) (drop_all n (drop k xs) (omega (arith, length-drop k xs)))
