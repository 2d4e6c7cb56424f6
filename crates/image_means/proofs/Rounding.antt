-- Means of numbers: sums, the rounding, and a division that is begun before the sum is whole.
use Rattle.std.proofs.Common.{◌≡◌, ℕ, zero, suc, ◌+◌, ◌-◌, ◌*◌, ◌/◌, ◌%◌, ◌<◌, ◌≤◌, refl, sym, ap, ap₂, ◌∙◌, arith}
use Rattle.std.proofs.lemmas.Nat.{div-mul-add, div-add-mod', mod_below, div_below, mul-le}
use Rattle.std.proofs.Math.Nat.{mul-suc, mul_assoc, mul_left_comm, mul_comm, add-mul, mul-add-div_right, le_of_mul-le-mul_right}
use Rattle.image_means.specs.Means.{sum_upto, rounded_mean, mean_of}

-- ---- sums

-- sums of the same numbers are one
pub sum_same : (n : ℕ) (f h : ℕ → ℕ) → ((i : ℕ) → i < n → f i ≡ h i) → sum_upto n f ≡ sum_upto n h
sum_same zero f h same = refl
sum_same (suc n) f h same = ap₂ (λ a b. a + b) (sum_same n f h (λ i below. same i (omega (arith, below)))) (same n (omega arith))

-- so are means of them
pub mean_same : (columns lines : ℕ) (f h : ℕ → ℕ → ℕ) → ((i j : ℕ) → i < columns → j < lines → f i j ≡ h i j) → mean_of columns lines f ≡ mean_of columns lines h
mean_same columns lines f h same =
    ap (λ s. rounded_mean s (columns * lines))
    (sum_same lines (λ j. sum_upto columns (λ i. f i j)) (λ j. sum_upto columns (λ i. h i j)) (λ j line. sum_same columns (λ i. f i j) (λ i. h i j) (λ i column. same i j column line)))

-- one number more
pub sum_next : (n : ℕ) (f : ℕ → ℕ) → sum_upto (n + 1) f ≡ sum_upto n f + f n
sum_next n f = ap (λ k. sum_upto k f) (let e : n + 1 ≡ suc n = omega arith in e)

-- and one number more that has a bound
pub bound_next : (n number greatest : ℕ) → number ≤ greatest → n * greatest + number ≤ (n + 1) * greatest
bound_next n number greatest within = omega (arith, within, add-mul n 1 greatest)

-- ---- the lines of a tile

module _ (lines : ℕ) (some : 0 < lines) where
  -- the pixels of all lines are no more than the cells that they reach
  pub pixels_within : (columns len stride count : ℕ) → columns ≤ len → len ≤ stride → stride * (lines - 1) + len ≤ count → columns * lines ≤ count
  pixels_within columns len stride count few apart inside =
      let all : len * lines ≡ len * (lines - 1) + len = ap (λ n. len * n) (let e : lines ≡ suc (lines - 1) = omega (arith, some) in e) ∙ mul-suc len (lines - 1) in
      omega (arith, all, inside, mul-le columns lines len lines few (omega arith), mul-le len (lines - 1) stride (lines - 1) apart (omega arith))

  -- and there is one
  pub some_pixels : (columns : ℕ) → 0 < columns → 0 < columns * lines
  some_pixels columns more = omega (arith, mul-le 1 1 columns lines more some)

  -- each line ends within the last one's end
  pub line_within : (line stride : ℕ) → line < lines → line * stride ≤ stride * (lines - 1)
  line_within line stride below = omega (arith, mul_comm stride (lines - 1), mul-le line stride (lines - 1) stride (omega (arith, below)) (omega arith))

  -- the sum of the lines so far, and of one line more
  pub sum_within : (line columns greatest sum more : ℕ) → line < lines → sum ≤ line * (columns * greatest) → more ≤ columns * greatest
      → (sum + more ≤ (line + 1) * (columns * greatest)) × (sum + more ≤ columns * lines * greatest)
  sum_within line columns greatest sum more below so here =
      let next : sum + more ≤ (line + 1) * (columns * greatest) = omega (arith, so, here, add-mul line 1 (columns * greatest)) in
      let all : (line + 1) * (columns * greatest) ≤ lines * (columns * greatest) = mul-le (line + 1) (columns * greatest) lines (columns * greatest) (omega (arith, below)) (omega arith) in
      let same : lines * (columns * greatest) ≡ columns * lines * greatest = sym (mul_assoc lines columns greatest) ∙ ap (λ n. n * greatest) (mul_comm lines columns) in
      (next, omega (arith, next, all, same))

-- ---- the rounding

module _ (sum count : ℕ) (some : 0 < count) where
  abbrev whole : ℕ
  whole = sum / count

  abbrev rest : ℕ
  rest = sum % count

  twice : (n : ℕ) → n * (2 * count) ≡ 2 * (n * count)
  twice n = mul_left_comm n 2 count

  -- a rest of at least a half counts as one more
  pub rounded_up : count - rest ≤ rest → whole + 1 ≡ rounded_mean sum count
  rounded_up up =
      let parts : whole * count + rest ≡ sum = div-add-mod' sum count in
      let below : rest < count = mod_below sum count some in
      let all : (whole + 1) * (2 * count) + (2 * rest - count) ≡ 2 * sum + count = omega (arith, parts, up, below, twice (whole + 1), add-mul whole 1 count) in
      sym (div-mul-add (whole + 1) (2 * count) (2 * rest - count) (omega (arith, below, up))) ∙ ap (λ n. n / (2 * count)) all

  -- and a smaller one as nothing
  pub rounded_down : rest < count - rest → whole ≡ rounded_mean sum count
  rounded_down down =
      let parts : whole * count + rest ≡ sum = div-add-mod' sum count in
      let below : rest < count = mod_below sum count some in
      let all : whole * (2 * count) + (2 * rest + count) ≡ 2 * sum + count = omega (arith, parts, twice whole) in
      sym (div-mul-add whole (2 * count) (2 * rest + count) (omega (arith, below, down))) ∙ ap (λ n. n / (2 * count)) all

  -- what was divided before is added
  pub rounded_later : (mean total : ℕ) → mean * count + sum ≡ total → mean + rounded_mean sum count ≡ rounded_mean total count
  rounded_later mean total is =
      let all : mean * (2 * count) + (2 * sum + count) ≡ 2 * total + count = omega (arith, is, twice mean) in
      let more : 0 < 2 * count = omega (arith, some) in
      sym (mul-add-div_right more mean (2 * sum + count)) ∙ ap (λ n. n / (2 * count)) all

  -- no mean is above the greatest number
  pub rounded_within : (greatest : ℕ) → sum ≤ count * greatest → rounded_mean sum count ≤ greatest
  rounded_within greatest within =
      let turned : (greatest + 1) * (2 * count) ≡ 2 * (count * greatest) + 2 * count = omega (arith, add-mul greatest 1 (2 * count), twice greatest, mul_comm greatest count) in
      let below : rounded_mean sum count < greatest + 1 = div_below (2 * sum + count) (2 * count) (greatest + 1) (omega (arith, some)) (omega (arith, turned, within, some)) in
      omega (arith, below)

  -- nor what is divided before
  pub divided_within : (mean greatest total : ℕ) → mean * count + sum ≡ total → total ≤ count * greatest → mean + sum / count ≤ greatest
  divided_within mean greatest total is within =
      let parts : whole * count + rest ≡ sum = div-add-mod' sum count in
      let all : (mean + whole) * count ≤ greatest * count = omega (arith, parts, is, within, add-mul mean whole count, mul_comm greatest count) in
      le_of_mul-le-mul_right all some

  -- a part of the sum is divided
  pub divided : (mean total : ℕ) → mean * count + sum ≡ total → (mean + whole) * count + rest ≡ total
  divided mean total is = omega (arith, div-add-mod' sum count, is, add-mul mean whole count)
