-- Numbers of any number of digits, read one after the other.
use Rattle.std.proofs.Common.{◌≡◌, ℕ, zero, suc, ◌+◌, ◌*◌, ◌<◌, ◌≤◌, ◌^◌, true, false, List, [], ◌∷◌, length, take, get_or, Some, None, refl, take_all, arith}
use Rattle.std.specs.Char.{is_ascii_digit, digit_value}
use Rattle.std.specs.Str.{all_ascii_digits}
use Rattle.std.specs.Str.Parse.{digits_value}
use Rattle.std.proofs.lemmas.Bool.Decides.{nat_tests}
use Rattle.std.proofs.lemmas.Int.Digits.{digits_value_more}
use Rattle.std.proofs.lemmas.Str.Parse.{digits_value-take-le}
use Rattle.texts.specs.Reading.{digits_of}
use Rattle.texts.specs.Digits.{IsDigit}

-- text that is all digits, and text that isn't
all_are : (n : ℕ) (xs : List ℕ) → ((k : ℕ) → k < n → IsDigit (get_or xs k 0)) → n ≤ length xs → all_ascii_digits (take n xs) ≡ true
all_are zero xs digits long = refl
all_are (suc n) [] digits long = absurd (omega arith)
all_are (suc n) (x ∷ xs) digits long =
    let here = digits 0 (omega arith) in
    let later = all_are n xs (λ k few. digits (suc k) (omega arith)) (omega arith) in
    grind (arith, nat_tests)

pub digits_are : (xs : List ℕ) (value : ℕ) → 0 < length xs → ((k : ℕ) → k < length xs → IsDigit (get_or xs k 0)) → digits_value 10 xs ≡ value → value < 2 ^ 64 → digits_of xs ≡ Some value
unfolding digits_of
digits_are xs value some digits is fits =
    let all : all_ascii_digits xs ≡ true = rw (take_all (length xs) xs (omega arith)) at (all_are (length xs) xs digits (omega arith)) in
    grind (arith, nat_tests)

not_all : (k : ℕ) (xs : List ℕ) → k < length xs → is_ascii_digit (get_or xs k 0) ≡ false → all_ascii_digits xs ≡ false
not_all k [] within other = absurd (omega arith)
not_all zero (x ∷ xs) within other = rw other refl
not_all (suc k) (x ∷ xs) within other = let later = not_all k xs (omega arith) other in grind (arith, nat_tests)

pub digits_are_not : (k : ℕ) (xs : List ℕ) → k < length xs → is_ascii_digit (get_or xs k 0) ≡ false → digits_of xs ≡ None
unfolding digits_of
digits_are_not k xs within other = rw (not_all k xs within other) refl

pub no_digits : (xs : List ℕ) → length xs ≡ 0 → digits_of xs ≡ None
unfolding digits_of
no_digits [] none = refl
no_digits (x ∷ xs) none = absurd (omega arith)

value_is : (b : ℕ) → IsDigit b → digit_value b + 48 ≡ b
value_is b digit =
    let low = digit.low in
    let high = digit.high in
    grind (arith, nat_tests)

-- one digit more
pub value_more : (n value : ℕ) (xs : List ℕ) → n < length xs → is_ascii_digit (get_or xs n 0) ≡ true → digits_value 10 (take n xs) ≡ value
    → IsDigit (get_or xs n 0) × (digits_value 10 (take (n + 1) xs) + 48 ≡ value * 10 + get_or xs n 0)
value_more n value xs long test is =
    let digit : IsDigit (get_or xs n 0) = record { low = grind (arith, nat_tests); high = grind (arith, nat_tests) } in
    (digit, omega (arith, digits_value_more 10 xs n long, value_is (get_or xs n 0) digit))

-- digits whose value is no usize, whatever follows
pub too_great : (n : ℕ) (xs : List ℕ) → 2 ^ 64 ≤ digits_value 10 (take n xs) → digits_of xs ≡ None
unfolding digits_of
too_great n xs great =
    let whole = digits_value-take-le 10 xs n (omega arith) in
    grind (arith, nat_tests)
