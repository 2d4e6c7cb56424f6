-- Sums of numbers, split and exchanged, and those of the samples in one column of rows.
use Rattle.std.proofs.Common.{◌≡◌, ℕ, zero, suc, ◌+◌, ◌-◌, ◌*◌, ◌<◌, ◌≤◌, List, [], ◌∷◌, take, drop, refl, ap, ◌∙◌, arith}
use Rattle.std.proofs.Math.Nat.{add-mul, mul-le-mul_right}
use Rattle.std.specs.List.{slice_get}
use Rattle.image_model.proofs.Cells.{slice_get-take, slice_get-drop}
use Rattle.image_means.specs.Blur.{column_upto, sum_at}
use Rattle.image_means.specs.Means.{sum_upto, number_in, sample_cells, sample_in, sample_number}
use Rattle.image_shape.specs.declared.samples.SampleBytes.{SampleBytes}
use Rattle.image_shape.specs.declared.samples.SampleBytes.TheVariants.{One, LowFirst, HighFirst}
use Rattle.image_means.proofs.Rounding.{sum_next}
use Rattle.image_means.proofs.Samples.{sample_same}

module _ (f : ℕ → ℕ) where
  -- the first numbers and those after them
  pub sum_split : (m n : ℕ) → sum_upto (m + n) f ≡ sum_upto m f + sum_upto n (λ i. f (m + i))
  sum_split m zero = let e : m + 0 ≡ m = omega arith in omega (arith, ap (λ k. sum_upto k f) e)
  sum_split m (suc n) =
      let e : m + suc n ≡ m + n + 1 = omega arith in
      omega (arith, ap (λ k. sum_upto k f) e, sum_next (m + n) f, sum_split m n)

  pub sum_grows : (m n : ℕ) → m ≤ n → sum_upto m f ≤ sum_upto n f
  sum_grows m n order = let e : m + (n - m) ≡ n = omega (arith, order) in omega (arith, ap (λ k. sum_upto k f) e, sum_split m (n - m))

-- numbers up to a greatest one
pub sum_bound : (f : ℕ → ℕ) (greatest n : ℕ) → ((i : ℕ) → f i ≤ greatest) → sum_upto n f ≤ n * greatest
sum_bound f greatest zero within = omega arith
sum_bound f greatest (suc n) within = omega (arith, within n, sum_bound f greatest n within, ap (λ k. k * greatest) (let e : suc n ≡ n + 1 = omega arith in e), add-mul n 1 greatest)

pub between_bound : (f : ℕ → ℕ) (greatest m n : ℕ) → ((i : ℕ) → f i ≤ greatest) → m ≤ n → sum_upto n f ≤ sum_upto m f + (n - m) * greatest
between_bound f greatest m n within order =
    let e : m + (n - m) ≡ n = omega (arith, order) in
    omega (arith, ap (λ k. sum_upto k f) e, sum_split f m (n - m), sum_bound (λ i. f (m + i)) greatest (n - m) (λ i. within (m + i)))

-- sums of sums, in either order
sum_added : (n : ℕ) (f h : ℕ → ℕ) → sum_upto n (λ i. f i + h i) ≡ sum_upto n f + sum_upto n h
sum_added zero f h = refl
sum_added (suc n) f h = omega (arith, sum_added n f h)

sum_none : (n : ℕ) → sum_upto n (λ i. 0) ≡ 0
sum_none zero = refl
sum_none (suc n) = omega (arith, sum_none n)

pub sum_exchanged : (m n : ℕ) (f : ℕ → ℕ → ℕ) → sum_upto m (λ i. sum_upto n (λ j. f i j)) ≡ sum_upto n (λ j. sum_upto m (λ i. f i j))
sum_exchanged m zero f = sum_none m
sum_exchanged m (suc n) f = sum_added m (λ i. sum_upto n (λ j. f i j)) (λ i. f i n) ∙ ap (λ k. k + sum_upto m (λ i. f i n)) (sum_exchanged m n f)

-- a sample has cells
pub cells_some : (bytes : SampleBytes) → 0 < sample_cells bytes
cells_some One = omega arith
cells_some LowFirst = omega arith
cells_some HighFirst = omega arith

-- a sample of a row is one of the cells
pub row_sample : (bytes : SampleBytes) (cells : List ℕ) (from upto start len stride y count k : ℕ) → from ≡ start → upto ≡ start + len → start ≡ y * stride → len ≡ count * sample_cells bytes → k < count
    → sample_in bytes (λ n. n) (take (upto - from) (drop from cells)) (k * sample_cells bytes) ≡ sample_in bytes (λ n. n) cells (y * stride + k * sample_cells bytes)
row_sample bytes cells from upto start len stride y count k first last begins long below =
    let next : (k + 1) * sample_cells bytes ≤ count * sample_cells bytes = mul-le-mul_right (sample_cells bytes) (omega (arith, below)) in
    let at : ℕ = k * sample_cells bytes in
    let cell : (c : ℕ) → c < sample_cells bytes → slice_get (take (upto - from) (drop from cells)) (at + c) ≡ slice_get cells (y * stride + at + c) = λ c inner.
    slice_get-take (upto - from) (drop from cells) (at + c) (omega (arith, next, add-mul k 1 (sample_cells bytes), inner, first, last, long)) ∙ slice_get-drop from cells (at + c) ∙ ap (slice_get cells) (let e : from + (at + c) ≡ y * stride + at + c = omega (arith, first, begins) in e) in
    let some : 0 < sample_cells bytes = cells_some bytes in
    sample_same bytes (λ n. n) _ _ _ _
    (ap (slice_get (take (upto - from) (drop from cells))) (let e : at ≡ at + 0 = omega arith in e) ∙ cell 0 some ∙ ap (slice_get cells) (let e : y * stride + at + 0 ≡ y * stride + at = omega arith in e))
    (λ two. cell 1 (omega (arith, two)))

-- one row more
pub column_next : (bytes : SampleBytes) (cells : List ℕ) (stride k n : ℕ) → column_upto bytes cells stride k (n + 1) ≡ column_upto bytes cells stride k n + sample_in bytes (λ i. i) cells (n * stride + k * sample_cells bytes)
column_next bytes cells stride k n = sum_next n (λ j. sample_in bytes (λ i. i) cells (j * stride + k * sample_cells bytes))

-- the sum of a column, up to one row more, by the row's own sample
pub column_more : (bytes : SampleBytes) (cells : List ℕ) (from upto start len stride y count k : ℕ) → from ≡ start → upto ≡ start + len → start ≡ y * stride → len ≡ count * sample_cells bytes → k < count
    → column_upto bytes cells stride k (y + 1) ≡ column_upto bytes cells stride k y + sample_in bytes (λ n. n) (take (upto - from) (drop from cells)) (k * sample_cells bytes)
column_more bytes cells from upto start len stride y count k first last begins long below =
    omega (arith, column_next bytes cells stride k y, row_sample bytes cells from upto start len stride y count k first last begins long below)

pub column_grows : (bytes : SampleBytes) (cells : List ℕ) (stride k m n : ℕ) → m ≤ n → column_upto bytes cells stride k m ≤ column_upto bytes cells stride k n
column_grows bytes cells stride k m n order = sum_grows (λ j. sample_in bytes (λ i. i) cells (j * stride + k * sample_cells bytes)) m n order

-- ---- bytes

number_get : (cells : List ℕ) (k : ℕ) → number_in (λ n. n) cells k ≡ sum_at cells k
number_get [] k = refl
number_get (x ∷ xs) zero = refl
number_get (x ∷ xs) (suc k) = number_get xs k

-- a sample of bytes is no more than the greatest one
sample_bound : (bytes : SampleBytes) (cells : List ℕ) (k : ℕ) → ((i : ℕ) → sum_at cells i ≤ 255) → sample_in bytes (λ n. n) cells k ≤ sample_number bytes 255 255
sample_bound One cells k within = omega (arith, number_get cells k, within k)
sample_bound LowFirst cells k within = omega (arith, number_get cells k, within k, number_get cells (k + 1), within (k + 1))
sample_bound HighFirst cells k within = omega (arith, number_get cells k, within k, number_get cells (k + 1), within (k + 1))

pub column_between : (bytes : SampleBytes) (cells : List ℕ) (stride k m n : ℕ) → ((i : ℕ) → sum_at cells i ≤ 255) → m ≤ n → column_upto bytes cells stride k n ≤ column_upto bytes cells stride k m + (n - m) * sample_number bytes 255 255
column_between bytes cells stride k m n within order =
    between_bound (λ j. sample_in bytes (λ i. i) cells (j * stride + k * sample_cells bytes)) (sample_number bytes 255 255) m n (λ j. sample_bound bytes cells (j * stride + k * sample_cells bytes) within) order
