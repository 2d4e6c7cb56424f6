-- Numbers of one to three digits before the first separator.
use Rattle.std.proofs.Common.{◌≡◌, ℕ, ◌<◌, ◌≤◌, ◌+◌, ◌-◌, ◌*◌, Bool, true, false, eqb, List, [], ◌∷◌, length, take, take_all, drop, get_or, Option, Some, refl, arith}
use Rattle.std.specs.List.{position_or_len}
use Rattle.std.proofs.lemmas.Bool.Decides.{nat_tests}
use Rattle.texts.specs.Parts.{parts_of}
use Rattle.texts.specs.Reading.{digits_of, number_of, first_of_parts}
use Rattle.texts.proofs.PartsCut.{slice_split-at, slice_split-whole}

-- where a separator first occurs, or how long the bytes are without one
pub at_one : (p : ℕ → Bool) (xs : List ℕ) → p (get_or xs 0 0) ≡ false → (1 < length xs → p (get_or xs 1 0) ≡ true) → 1 ≤ length xs → position_or_len p xs ≡ 1
at_one p (a ∷ []) other here long = rw other refl
at_one p (a ∷ b ∷ xs) other here long = rw (other, here (omega arith)) refl
at_one p [] other here long = absurd (omega arith)

pub at_two : (p : ℕ → Bool) (xs : List ℕ) → p (get_or xs 0 0) ≡ false → p (get_or xs 1 0) ≡ false → (2 < length xs → p (get_or xs 2 0) ≡ true) → 2 ≤ length xs → position_or_len p xs ≡ 2
at_two p (a ∷ b ∷ []) other other2 here long = rw (other, other2) refl
at_two p (a ∷ b ∷ c ∷ xs) other other2 here long = rw (other, other2, here (omega arith)) refl
at_two p _ other other2 here long = absurd (omega arith)

pub at_three : (p : ℕ → Bool) (xs : List ℕ) → p (get_or xs 0 0) ≡ false → p (get_or xs 1 0) ≡ false → p (get_or xs 2 0) ≡ false → (3 < length xs → p (get_or xs 3 0) ≡ true) → 3 ≤ length xs
    → position_or_len p xs ≡ 3
at_three p (a ∷ b ∷ c ∷ []) other other2 other3 here long = rw (other, other2, other3) refl
at_three p (a ∷ b ∷ c ∷ d ∷ xs) other other2 other3 here long = rw (other, other2, other3, here (omega arith)) refl
at_three p _ other other2 other3 here long = absurd (omega arith)

-- the number of one digit, of two, and of three
pub number_one : (xs : List ℕ) → 0 < length xs → 48 ≤ get_or xs 0 0 → get_or xs 0 0 ≤ 57 → number_of (take 1 xs) ≡ Some (get_or xs 0 0 - 48)
unfolding number_of digits_of
number_one (a ∷ xs) long low high = grind (arith, nat_tests)
number_one _ long low high = absurd (omega arith)

pub number_two : (xs : List ℕ) → 1 < length xs → 49 ≤ get_or xs 0 0 → get_or xs 0 0 ≤ 57 → 48 ≤ get_or xs 1 0 → get_or xs 1 0 ≤ 57
    → number_of (take 2 xs) ≡ Some ((get_or xs 0 0 - 48) * 10 + (get_or xs 1 0 - 48))
unfolding number_of digits_of
number_two (a ∷ b ∷ xs) long low high low2 high2 = grind (arith, nat_tests)
number_two _ long low high low2 high2 = absurd (omega arith)

pub number_three : (xs : List ℕ) → 2 < length xs → 49 ≤ get_or xs 0 0 → get_or xs 0 0 ≤ 57 → 48 ≤ get_or xs 1 0 → get_or xs 1 0 ≤ 57 → 48 ≤ get_or xs 2 0 → get_or xs 2 0 ≤ 57
    → number_of (take 3 xs) ≡ Some (((get_or xs 0 0 - 48) * 10 + (get_or xs 1 0 - 48)) * 10 + (get_or xs 2 0 - 48))
unfolding number_of digits_of
number_three (a ∷ b ∷ c ∷ xs) long low high low2 high2 low3 high3 = grind (arith, nat_tests)
number_three _ long low high low2 high2 low3 high3 = absurd (omega arith)

-- the first of the parts is read, and these are left
pub first_and_others : {A : Type 0} (read : List ℕ → Option A) (separator : ℕ) (xs : List ℕ) (at : ℕ) (x : A) → position_or_len (λ b. eqb b separator) xs ≡ at → read (take at xs) ≡ Some x → at < length xs
    → first_of_parts read (parts_of separator xs) ≡ Some (x, parts_of separator (take (length xs - (at + 1)) (drop (at + 1) xs)))
unfolding first_of_parts
first_and_others read separator xs at x is found before = rw (slice_split-at (λ b. eqb b separator) xs at (grind (arith, nat_tests)), found) refl

pub first_alone : {A : Type 0} (read : List ℕ → Option A) (separator : ℕ) (xs : List ℕ) (at : ℕ) (x : A) → position_or_len (λ b. eqb b separator) xs ≡ at → read (take at xs) ≡ Some x → length xs ≤ at
    → first_of_parts read (parts_of separator xs) ≡ Some (x, [])
unfolding first_of_parts
first_alone read separator xs at x is found all = rw (slice_split-whole (λ b. eqb b separator) xs (grind (arith, nat_tests)), ← take_all at xs all, found) refl

-- what reading a number of at most three digits needs
pub ruleset short_numbers = (at_one, at_two, at_three, number_one, number_two, number_three)
