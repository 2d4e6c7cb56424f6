-- A multiplication by a factor is a division, where the number is small.
use Rattle.std.proofs.Common.{◌≡◌, ℕ, ◌+◌, ◌-◌, ◌*◌, ◌/◌, ◌%◌, ◌<◌, ◌≤◌, ◌^◌, Bool, true, false, nat_le, if◌then◌else◌, refl, sym, ap, ◌∙◌, arith}
use Rattle.std.proofs.lemmas.Nat.{div-mul-add, div-add-mod', mod_below, mul-le}
use Rattle.std.proofs.Math.Nat.{mul_assoc, mul_comm, mul_left_comm, mul_right_comm, mul-add-div_right, add-mul, mul-le-mul_right, lt_of_mul-lt-mul_right}
use Rattle.std.proofs.lemmas.Bool.{leb-true}
use Rattle.image_means.specs.Division.{factor_of}
use Rattle.image_means.specs.Means.{rounded_mean}

module _ (number count : ℕ) (some : 0 < count) where
  abbrev whole : ℕ
  whole = number / count

  parts : whole * count + number % count ≡ number
  parts = div-add-mod' number count

  module _ (one : ℕ) (small : number * count < one) where
    abbrev factor : ℕ
    factor = one / count + 1

    abbrev product : ℕ
    product = number * factor

    -- the factor is above the quotient, by at most one
    above : one < factor * count
    above = omega (arith, div-add-mod' one count, mod_below one count some, add-mul (one / count) 1 count)

    near : factor * count ≤ one + count
    near = omega (arith, div-add-mod' one count, add-mul (one / count) 1 count)

    not_less : whole * one ≤ product
    not_less =
        let more : whole * one ≤ whole * (factor * count) = mul-le whole one whole (factor * count) (omega arith) (omega (arith, above)) in
        let turned : whole * (factor * count) ≡ whole * count * factor = ap (λ n. whole * n) (mul_comm factor count) ∙ sym (mul_assoc whole count factor) in
        omega (arith, more, turned, mul-le (whole * count) factor number factor (omega (arith, parts)) (omega arith))

    not_more : product < (whole + 1) * one
    not_more =
        let turned : product * count ≡ number * (factor * count) = mul_assoc number factor count in
        let most : number * (factor * count) ≤ (one + count) * number = omega (arith, mul-le number (factor * count) number (one + count) (omega arith) near, mul_comm number (one + count)) in
        let split : (one + count) * number ≡ one * number + count * number = add-mul one count number in
        let next : number + 1 ≤ (whole + 1) * count = omega (arith, parts, mod_below number count some, add-mul whole 1 count) in
        let all : (number + 1) * one ≤ (whole + 1) * count * one = mul-le-mul_right one next in
        let last : (whole + 1) * count * one ≡ (whole + 1) * one * count = mul_assoc (whole + 1) count one ∙ ap (λ n. (whole + 1) * n) (mul_comm count one) ∙ sym (mul_assoc (whole + 1) one count) in
        lt_of_mul-lt-mul_right count (omega (arith, turned, most, split, all, last, add-mul number 1 one, mul_comm one number, mul_comm count number, small))

    by_factor : product / one ≡ whole
    by_factor =
        let next : (whole + 1) * one ≡ whole * one + one = omega (arith, add-mul whole 1 one) in
        let all : whole * one + (product - whole * one) ≡ product = omega (arith, not_less) in
        ap (λ n. n / one) (sym all) ∙ div-mul-add whole one (product - whole * one) (omega (arith, not_less, not_more, next))

-- a quotient of a product is that of one factor, and what its rest adds
pub in_two : (one part count : ℕ) → 0 < count → one / count * part + one % count * part / count ≡ one * part / count
in_two one part count some =
    sym (mul-add-div_right some (one / count * part) (one % count * part))
    ∙ ap (λ n. n / count) (
    ap (λ n. n + one % count * part) (mul_right_comm (one / count) part count)
    ∙ sym (add-mul (one / count * count) (one % count) part)
    ∙ ap (λ n. n * part) (div-add-mod' one count)
    )

-- a half of the count before the division rounds
rounds : (sum count : ℕ) → 0 < count → (sum + count / 2) / count ≡ rounded_mean sum count
rounds sum count some =
    let number : ℕ = sum + count / 2 in
    let whole : ℕ = number / count in
    let rest : ℕ = number % count in
    let all : whole * (2 * count) + (2 * rest + count % 2) ≡ 2 * sum + count = omega (arith, div-add-mod' number count, mul_left_comm whole 2 count) in
    sym (div-mul-add whole (2 * count) (2 * rest + count % 2) (omega (arith, mod_below number count some))) ∙ ap (λ n. n / (2 * count)) all

-- a factor that is there is that of a small count
by_test : (b : Bool) (count factor : ℕ) → nat_le count 46340 ≡ b → factor ≡ (if b then 2 ^ 47 / count + 1 else 0) → 0 < factor → (count ≤ 46340) × (factor ≡ 2 ^ 47 / count + 1)
by_test true count factor test is more = (leb-true count 46340 test, is)
by_test false count factor test is more = absurd (omega (arith, is, more))

pub small : (count factor : ℕ) → factor ≡ factor_of count → 0 < factor → (count ≤ 46340) × (factor ≡ 2 ^ 47 / count + 1)
small count factor is more = by_test (nat_le count 46340) count factor refl is more

module _ (sum count : ℕ) (some : 0 < count) (few : count ≤ 46340) (samples : sum ≤ count * 65535) where
  number_below : sum + count / 2 < count * 65536
  number_below = omega (arith, samples, some)

  number_small : (sum + count / 2) * count < 2 ^ 47
  number_small =
      let bound : (sum + count / 2) * count ≤ (46340 * 65536) * 46340 = mul-le (sum + count / 2) count (46340 * 65536) 46340 (omega (arith, number_below, few)) few in
      omega (arith, bound)

  pub product_fits : (factor : ℕ) → factor ≡ 2 ^ 47 / count + 1 → (sum + count / 2) * factor < 2 ^ 64
  product_fits factor is =
      let parts : factor * count ≤ 2 ^ 47 + count = omega (arith, ap (λ n. n * count) is, div-add-mod' (2 ^ 47) count, add-mul (2 ^ 47 / count) 1 count) in
      let more : (sum + count / 2) * factor ≤ count * 65536 * factor = mul-le (sum + count / 2) factor (count * 65536) factor (omega (arith, number_below)) (omega arith) in
      let turned : count * 65536 * factor ≡ factor * count * 65536 = ap (λ n. n * factor) (mul_comm count 65536) ∙ mul_assoc 65536 count factor ∙ mul_comm 65536 (count * factor) ∙ ap (λ n. n * 65536) (mul_comm count factor) in
      omega (arith, parts, more, turned, few)

-- the mean by the factor
pub mean_by_factor : (sum count factor : ℕ) → 0 < count → factor ≡ factor_of count → 0 < factor → sum ≤ count * 65535 → (sum + count / 2) * factor / 2 ^ 47 ≡ rounded_mean sum count
mean_by_factor sum count factor some is more samples =
    let so = small count factor is more in
    ap (λ n. (sum + count / 2) * n / 2 ^ 47) so.1
    ∙ by_factor (sum + count / 2) count some (2 ^ 47) (number_small sum count some so.0 samples)
    ∙ rounds sum count some
