-- Numbers and their texts.
use Rattle.std.proofs.Common.{◌≡◌, ◌≢◌, ℕ, ◌^◌, ◌<◌, Bool, true, false, cond, ltb, eqb, ◌&&◌, ◌||◌, inl, inr, ◌⊎◌, List, length, get_or, Option, Some, None, Result, Err, refl, sym, ap, ◌∙◌, arith}
use Rattle.std.specs.Result.{result_ok, OkIff}
use Rattle.std.specs.Str.{IsUtf8, all_ascii_digits}
use Rattle.std.specs.Str.Parse.{ParsesUnsigned, digits_value}
use Rattle.std.proofs.lemmas.Str.Parse.{IsNumeralModel, numerals_by_value, tells_all_ascii_digits, parse_plain}
use Rattle.std.proofs.lemmas.Fmt.{IsAscii-from_digits, decimal-digits_value, digits_decimal, digits_value-decimal, decimal_nonempty, first_decimal, decimal_digit}
use Rattle.std.proofs.lemmas.Str.{IsUtf8-from_ascii}
use Rattle.std.proofs.lemmas.Bool.Decides.{nat_tests, eqb_tells}
use Rattle.std.proofs.lemmas.Bool.{cases_lt, lt-ltb, le-ltb, eqb-true}
use Rattle.std.specs.Fmt.{decimal}
use Rattle.texts.specs.Reading.{digits_of, number_of}

pub own : IsNumeralModel (λ ds. all_ascii_digits ds ≡ true) (digits_value 10)
own = numerals_by_value _ tells_all_ascii_digits

pub not_true : (b : Bool) → (b ≡ true → ⊥) → b ≡ false
not_true true h = absurd (h refl)
not_true false h = refl

pub digits_of-not_text : (field : List ℕ) → (IsUtf8 field → ⊥) → digits_of field ≡ None
unfolding digits_of
digits_of-not_text field h = grind (arith, IsAscii-from_digits, IsUtf8-from_ascii, own, not_true)

parsed_cases : {E : Type 0} (r : Result ℕ E) (a : Bool) (n v m : ℕ) → OkIff r ((a ≡ true) × (0 < n) × (v < m)) v → result_ok r ≡ cond (a && (ltb 0 n && ltb v m)) (Some v) None
parsed_cases (Err e) false n v m h = refl
parsed_cases _ _ n v m h = grind (arith, nat_tests)

pub digits_of-parsed : {E : Type 0} (field : List ℕ) (r : Result ℕ E) → get_or field 0 0 ≢ 43 → ParsesUnsigned 64 10 field r → result_ok r ≡ digits_of field
unfolding digits_of
digits_of-parsed field r h p = parsed_cases r (all_ascii_digits field) (length field) (digits_value 10 field) (2 ^ 64) (parse_plain own 64 field r p h)

-- ---- a number's text and its value

digits_cases : (a : Bool) (n v m x : ℕ) → cond (a && (ltb 0 n && ltb v m)) (Some v) None ≡ Some x → (a ≡ true) × (0 < n) × (v < m) × (v ≡ x)
digits_cases false n v m x e = absurd cc
digits_cases true n v m x e = grind (arith, cases_lt, lt-ltb, le-ltb)

canonical_cases : (a b : Bool) (o : Option ℕ) (x : ℕ) → cond (a || b) None o ≡ Some x → (a ≡ false) × (b ≡ false) × (o ≡ Some x)
canonical_cases false false o x e = (refl, refl, e)
canonical_cases _ _ o x e = absurd cc

zero_cases : (first n : ℕ) → (eqb first 48 && ltb 1 n) ≡ false → 0 < n → first ≡ 48 → n ≡ 1
zero_cases first n e some none = grind (arith, nat_tests)

pub number_of-is : (field : List ℕ) (n : ℕ) → number_of field ≡ Some n → (field ≡ decimal n) × (n < 2 ^ 64)
unfolding number_of digits_of
number_of-is field n e =
    let c = canonical_cases (eqb (get_or field 0 0) 43) (eqb (get_or field 0 0) 48 && ltb 1 (length field)) (digits_of field) n e in
    let d = digits_cases (all_ascii_digits field) (length field) (digits_value 10 field) (2 ^ 64) n c.2 in
    let whole = decimal-digits_value own field d.0 d.1 (zero_cases (get_or field 0 0) (length field) c.1 d.1) d.2 in
    (sym whole ∙ ap decimal d.3, rw (← d.3) d.2)

and_false : (b : Bool) → (b && false) ≡ false
and_false true = refl
and_false false = refl

cases_eq : (a b : ℕ) → (a ≡ b) ⊎ (a ≡ b → ⊥)
cases_eq a b = elim (eqb_tells a b) [ inl t ↦ inl t.1 | inr t ↦ inr t.1 ]

not_eqb : (a b : ℕ) → (a ≡ b → ⊥) → eqb a b ≡ false
not_eqb a b h = not_true (eqb a b) (λ e. h (eqb-true a b e))

no_zero : (first n : ℕ) → (first ≡ 48 → n ≡ 1) → (eqb first 48 && ltb 1 n) ≡ false
no_zero first n h = grind (arith, le-ltb, and_false, cases_eq, not_eqb)

canonical_is : (field : List ℕ) (n : ℕ) → all_ascii_digits field ≡ true → 0 < length field → digits_value 10 field ≡ n → n < 2 ^ 64
    → get_or field 0 0 ≢ 43 → (get_or field 0 0 ≡ 48 → length field ≡ 1) → number_of field ≡ Some n
unfolding number_of digits_of
canonical_is field n digits some value lt plus none = grind (arith, lt-ltb, not_eqb, no_zero)

first_fits : (n : ℕ) → n < 2 ^ 64 → (get_or (decimal n) 0 0 ≢ 43) × (get_or (decimal n) 0 0 ≡ 48 → length (decimal n) ≡ 1)
first_fits n lt = grind (arith, first_decimal, decimal_digit, cases_lt)

pub number_of-decimal : (n : ℕ) → n < 2 ^ 64 → number_of (decimal n) ≡ Some n
number_of-decimal n lt = grind (arith, digits_decimal, digits_value-decimal, decimal_nonempty, own, canonical_is, first_fits)
