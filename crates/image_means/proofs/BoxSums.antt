-- Sums up to a pixel.
use Rattle.std.proofs.Common.{◌≡◌, ℕ, zero, suc, ◌+◌, ◌-◌, ◌*◌, ◌/◌, ◌<◌, ◌≤◌, ◌⊎◌, inl, inr, min, List, length, sym, ap, ◌∙◌, arith}
use Rattle.std.proofs.lemmas.Nat.{div-mul-add}
use Rattle.std.proofs.Math.Nat.{add-mul, mul-le-mul_right, lt_of_mul-lt-mul_right}
use Rattle.image_means.specs.Blur.{sum_at, pixels_upto, box_first, box_end, box_sum}
use Rattle.image_means.proofs.Rounding.{sum_next}

-- one pixel more
pub pixels_next : (sums : List ℕ) (per at n : ℕ) → pixels_upto sums per at (n + 1) ≡ pixels_upto sums per at n + sum_at sums (n * per + at)
pixels_next sums per at n = sum_next n (λ p. sum_at sums (p * per + at))

-- more pixels have no smaller sum
pub pixels_more : (sums : List ℕ) (per at n more : ℕ) → pixels_upto sums per at n ≤ pixels_upto sums per at (n + more)
pixels_more sums per at n zero = let e : n + 0 ≡ n = omega arith in omega (arith, ap (pixels_upto sums per at) e)
pixels_more sums per at n (suc more) = let e : n + suc more ≡ n + more + 1 = omega arith in omega (arith, ap (pixels_upto sums per at) e, pixels_more sums per at n more, pixels_next sums per at (n + more))

-- ---- the box around the next pixel

module _ (sums : List ℕ) (per at across p : ℕ) where
  -- the sum after the pixel that comes in, where there is one
  pub comes_in : (more before sum : ℕ) → before + pixels_upto sums per at (p - (across + 1)) ≡ more + pixels_upto sums per at (min (length sums / per) (p + across))
      → ((p + across < length sums / per) × (sum ≡ before + sum_at sums ((p + across) * per + at))) ⊎ ((length sums / per ≤ p + across) × (sum ≡ before))
      → sum + pixels_upto sums per at (p - (across + 1)) ≡ more + pixels_upto sums per at (min (length sums / per) (p + across + 1))
  comes_in more before sum so (inl it) =
      omega (
        arith,
        so,
        it.1,
        pixels_next sums per at (p + across),
        ap (pixels_upto sums per at) (let e : min (length sums / per) (p + across) ≡ p + across = omega (arith, it.0) in e),
        ap (pixels_upto sums per at) (let e : min (length sums / per) (p + across + 1) ≡ p + across + 1 = omega (arith, it.0) in e),
      )
  comes_in more before sum so (inr none) = omega (arith, so, none.1, ap (pixels_upto sums per at) (let e : min (length sums / per) (p + across) ≡ min (length sums / per) (p + across + 1) = omega (arith, none.0) in e))

  -- the pixel that goes out is a part of it
  pub goes_out : across < p → pixels_upto sums per at (p - across) ≡ pixels_upto sums per at (p - (across + 1)) + sum_at sums ((p - across - 1) * per + at)
  goes_out later =
      omega (
        arith,
        pixels_next sums per at (p - across - 1),
        ap (pixels_upto sums per at) (let e : p - across - 1 + 1 ≡ p - across = omega (arith, later) in e),
        ap (pixels_upto sums per at) (let e : p - across - 1 ≡ p - (across + 1) = omega (arith, later) in e),
      )

-- the pixel of a sample that is there
pub pixel_of : (count per p at : ℕ) → count ≡ count / per * per → p * per + at < count → p < count / per
pixel_of count per p at whole here = lt_of_mul-lt-mul_right per (omega (arith, whole, here))

-- nor one less than so many of the greatest
module _ (sums : List ℕ) (per at greatest : ℕ) (place : at < per) (whole : length sums ≡ length sums / per * per) (bounds : (k : ℕ) → k < length sums → sum_at sums k ≤ greatest) where
  abbrev pixels : ℕ
  pixels = length sums / per

  abbrev upto : ℕ → ℕ
  upto n = pixels_upto sums per at n

  -- a pixel's sample is there
  pub sample_there : (p : ℕ) → p < pixels → p * per + at < length sums
  sample_there p below =
      let next : (p + 1) * per ≤ pixels * per = mul-le-mul_right per (omega (arith, below)) in
      omega (arith, next, add-mul p 1 per, place, whole)

  pub upto_grows : (m n : ℕ) → m ≤ n → upto m ≤ upto n
  upto_grows m n order = let e : m + (n - m) ≡ n = omega (arith, order) in omega (arith, ap upto e, pixels_more sums per at m (n - m))

  pub upto_bound : (m more : ℕ) → m + more ≤ pixels → upto (m + more) ≤ upto m + more * greatest
  upto_bound m zero within = let e : m + 0 ≡ m = omega arith in omega (arith, ap upto e)
  upto_bound m (suc more) within =
      let e : m + suc more ≡ m + more + 1 = omega arith in
      let f : suc more * greatest ≡ more * greatest + greatest = ap (λ n. n * greatest) (let d : suc more ≡ more + 1 = omega arith in d) ∙ (let h : (more + 1) * greatest ≡ more * greatest + greatest = omega (arith, add-mul more 1 greatest) in h) in
      omega (arith, ap upto e, f, upto_bound m more (omega (arith, within)), pixels_next sums per at (m + more), bounds ((m + more) * per + at) (sample_there (m + more) (omega (arith, within))))

  -- the same between two pixels
  pub between_bound : (m n : ℕ) → m ≤ n → n ≤ pixels → upto n ≤ upto m + (n - m) * greatest
  between_bound m n order within = let e : m + (n - m) ≡ n = omega (arith, order) in omega (arith, ap upto e, upto_bound m (n - m) (omega (arith, order, within)))

  module _ (across p : ℕ) (here : p < pixels) where
    -- the box has a pixel
    pub box_order : box_first across p < box_end across pixels p
    box_order = omega (arith, here)

    -- its sum
    pub sum_is : (sum : ℕ) → sum + upto (box_first across p) ≡ upto (box_end across pixels p) → sum ≡ box_sum sums per across p at
    sum_is sum is = omega (arith, is)

    pub is_sum : box_sum sums per across p at + upto (box_first across p) ≡ upto (box_end across pixels p)
    is_sum = omega (arith, upto_grows (box_first across p) (box_end across pixels p) (omega (arith, box_order)))

    pub sum_bound : box_sum sums per across p at ≤ (box_end across pixels p - box_first across p) * greatest
    sum_bound = omega (arith, is_sum, between_bound (box_first across p) (box_end across pixels p) (omega (arith, box_order)) (omega arith))

-- one sample has one pixel and one place
pub same_place : (per q a p at : ℕ) → a < per → at < per → q * per + a ≡ p * per + at → (q ≡ p) × (a ≡ at)
same_place per q a p at first second same =
    let pixel : q ≡ p = sym (div-mul-add q per a first) ∙ ap (λ n. n / per) same ∙ div-mul-add p per at second in
    (pixel, omega (arith, same, ap (λ n. n * per) pixel))
