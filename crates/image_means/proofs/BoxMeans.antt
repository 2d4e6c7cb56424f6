-- The mean of a box, by sums of columns, is that of the grid.
use Rattle.std.proofs.Common.{◌≡◌, ℕ, ◌+◌, ◌-◌, ◌*◌, ◌/◌, ◌%◌, ◌<◌, ◌≤◌, ◌==◌, List, length, Some, refl, sym, ap, ap₂, ◌∙◌, arith}
use Rattle.std.proofs.lemmas.Nat.{div-mul-add, div-add-mod', mod_below}
use Rattle.std.proofs.Math.Nat.{add-mul, mul_assoc, mul-lt-mul_of_pos_right, lt_of_mul-lt-mul_right, le_of_mul-le-mul_right}
use Rattle.std.specs.List.{slice_get}
use Rattle.image_model.specs.Grid.{Grid, grid_of}
use Rattle.image_model.proofs.Grids.{pixel_at}
use Rattle.image_shape.specs.Shape.{shaped}
use Rattle.image_shape.specs.declared.shape.Shape.{Shape}
use Rattle.image_means.specs.Blur.{sum_at, column_upto, box_first, box_end, box_sum, box_mean, sums_mean, BlursRow}
use Rattle.image_means.specs.Means.{sum_upto, mean_of, rounded_mean, sample_cells, sample_start, cell_number, byte_of, sample_in, sample_at}
use Rattle.image_shape.specs.declared.samples.SampleBytes.{SampleBytes}
use Rattle.image_shape.specs.declared.samples.SampleBytes.TheVariants.{One, LowFirst, HighFirst}
use Rattle.image_means.proofs.Rounding.{sum_same, mean_same}
use Rattle.image_means.proofs.Samples.{sample_same, second_within, whole_pixels}
use Rattle.image_means.proofs.BoxSums.{pixel_of, sample_there, is_sum}
use Rattle.image_means.proofs.ColumnSums.{sum_split, sum_exchanged, cells_some}

-- where a sample begins, and which of its cells a column has
start_is : (bytes : SampleBytes) (x : ℕ) → sample_start bytes x ≡ x / sample_cells bytes * sample_cells bytes
start_is One x = omega arith
start_is LowFirst x = omega arith
start_is HighFirst x = omega arith

number_is : (bytes : SampleBytes) (x n : ℕ) → cell_number bytes (x % sample_cells bytes) n ≡ cell_number bytes x n
number_is One x n = refl
number_is LowFirst x n = ap (λ k. byte_of (k == 0) n) (let e : x % 2 % 2 ≡ x % 2 = omega arith in e)
number_is HighFirst x n = ap (λ k. byte_of (k == 1) n) (let e : x % 2 % 2 ≡ x % 2 = omega arith in e)

own_whole : (bytes : SampleBytes) → sample_cells bytes % sample_cells bytes ≡ 0
own_whole One = refl
own_whole LowFirst = refl
own_whole HighFirst = refl

module _ (bytes : SampleBytes) (sums source : List ℕ) (s : Shape) (per across down y greatest : ℕ) (some : 0 < per) (whole : length sums ≡ length sums / per * per)
    (row : s.width ≡ length sums * sample_cells bytes) (line : y < s.height) (bounds : (k : ℕ) → k < length sums → sum_at sums k ≤ greatest)
    (columns : (k : ℕ) → k < length sums → sum_at sums k + column_upto bytes source s.stride k (box_first down y) ≡ column_upto bytes source s.stride k (box_end down s.height y)) where
  abbrev cells : ℕ
  cells = sample_cells bytes

  abbrev size : ℕ
  size = per * cells

  abbrev lines : ℕ
  lines = box_end down s.height y - box_first down y

  abbrev pixels : ℕ
  pixels = length sums / per

  -- a column's sum, from the box's first row on
  column_is : (k : ℕ) → k < length sums → sum_at sums k ≡ sum_upto lines (λ j. sample_in bytes (λ n. n) source ((box_first down y + j) * s.stride + k * cells))
  column_is k below =
      let f : ℕ → ℕ = λ j. sample_in bytes (λ n. n) source (j * s.stride + k * cells) in
      let all : box_first down y + lines ≡ box_end down s.height y = omega (arith, line) in
      omega (arith, columns k below, sum_split f (box_first down y) lines, ap (λ n. sum_upto n f) all)

  module _ (p at : ℕ) (place : at < per) (here : p * per + at < length sums) where
    abbrev first : ℕ
    first = box_first across p

    abbrev many : ℕ
    many = box_end across pixels p - box_first across p

    abbrev column : ℕ
    column = (p * per + at) * cells

    pixel_here : p < pixels
    pixel_here = pixel_of (length sums) per p at whole here

    sum_split_is : box_sum sums per across p at ≡ sum_upto many (λ i. sum_at sums ((first + i) * per + at))
    sum_split_is =
        let f : ℕ → ℕ = λ q. sum_at sums (q * per + at) in
        let all : first + many ≡ box_end across pixels p = omega (arith, pixel_here) in
        omega (arith, is_sum sums per at greatest place whole bounds across p pixel_here, sum_split f first many, ap (λ n. sum_upto n f) all)

    samples_are : box_sum sums per across p at ≡ sum_upto lines (λ j. sum_upto many (λ i. sample_in bytes (λ n. n) source ((box_first down y + j) * s.stride + ((first + i) * per + at) * cells)))
    samples_are =
        sum_split_is
        ∙ sum_same many _ _ (λ i inner. column_is ((first + i) * per + at) (sample_there sums per at greatest place whole bounds (first + i) (omega (arith, inner))))
        ∙ sum_exchanged many lines (λ i j. sample_in bytes (λ n. n) source ((box_first down y + j) * s.stride + ((first + i) * per + at) * cells))

    column_parts : (q : ℕ) → (q * per + at) * cells ≡ q * size + at * cells
    column_parts q = add-mul (q * per) at cells ∙ ap (λ n. n + at * cells) (mul_assoc q per cells)

    at_within : at * cells < size
    at_within = mul-lt-mul_of_pos_right place (cells_some bytes)

    pixel_is : column / size ≡ p
    pixel_is = ap (λ n. n / size) (column_parts p) ∙ div-mul-add p size (at * cells) at_within

    place_is : column % size ≡ at * cells
    place_is = omega (arith, div-add-mod' column size, ap (λ n. n * size) pixel_is, column_parts p)

    pixels_are : s.width / size ≡ pixels
    pixels_are =
        let all : s.width ≡ pixels * size + 0 = omega (arith, row, ap (λ n. n * cells) whole, mul_assoc pixels per cells) in
        ap (λ n. n / size) all ∙ div-mul-add pixels size 0 (omega (arith, at_within))

    pub mean_is : sums_mean sums per across lines p at ≡ box_mean bytes size across down (grid_of (shaped source s)) column y
    unfolding grid_of
    mean_is =
        let g : Grid ℕ = grid_of (shaped source s) in
        let by : ℕ → ℕ → ℕ → ℕ = λ w q r. mean_of (box_end across w q - box_first across q) lines (λ i j. sample_at bytes (λ n. n) g ((box_first across q + i) * size + r) (box_first down y + j)) in
        let cell : (n j k : ℕ) → n < s.width → j < s.height → k ≡ j * s.stride + n → slice_get source k ≡ g.pixel n j = λ n j k inner low there. ap (slice_get source) there ∙ sym (pixel_at (shaped source s) n j inner low) in
        ap (λ n. rounded_mean n (many * lines)) samples_are
        ∙ mean_same many lines _ _ (λ i j inner above.
        let q : ℕ = first + i in
        let u : ℕ = q * size + at * cells in
        let there = sample_there sums per at greatest place whole bounds q (omega (arith, inner)) in
        let u_in : u < s.width = omega (arith, mul-lt-mul_of_pos_right there (cells_some bytes), column_parts q, row) in
        let low : box_first down y + j < s.height = omega (arith, above) in
        sample_same bytes (λ n. n) _ _ _ _ (cell u (box_first down y + j) ((box_first down y + j) * s.stride + (q * per + at) * cells) u_in low (omega (arith, column_parts q)))
        (λ two.
        let next : u + 1 < s.width = second_within bytes u s.width two (ap (λ n. n % cells) (sym (column_parts q)) ∙ whole_pixels bytes (q * per + at) cells (own_whole bytes)) (ap (λ n. n % cells) row ∙ whole_pixels bytes (length sums) cells (own_whole bytes)) u_in in
        cell (u + 1) (box_first down y + j) ((box_first down y + j) * s.stride + (q * per + at) * cells + 1) next low (omega (arith, column_parts q))))
        ∙ sym (ap (λ w. by w (column / size) (column % size)) pixels_are ∙ ap₂ (λ q r. by pixels q r) pixel_is place_is)

  -- so the cells of a row are those of the blurred grid
  pub row_is : (old new : List ℕ) (x : ℕ) → BlursRow bytes sums per across lines old new → x < s.width → slice_get new x ≡ Some (cell_number bytes x (box_mean bytes size across down (grid_of (shaped source s)) (sample_start bytes x) y))
  row_is old new x blurs inner =
      let k : ℕ = x / cells in
      let c : ℕ = x % cells in
      let p : ℕ = k / per in
      let at : ℕ = k % per in
      let parts : k * cells + c ≡ x = div-add-mod' x cells in
      let sample : p * per + at ≡ k = div-add-mod' k per in
      let place : at < per = mod_below k per some in
      let below : k < length sums = lt_of_mul-lt-mul_right cells (omega (arith, parts, inner, row)) in
      let here : p * per + at < length sums = omega (arith, sample, below) in
      let there : (p * per + at) * cells + c ≡ x = ap (λ n. n * cells + c) sample ∙ parts in
      ap (slice_get new) (sym there)
      ∙ blurs.each p at c place here (mod_below x cells (cells_some bytes))
      ∙ ap Some (number_is bytes x (sums_mean sums per across lines p at)
      ∙ ap (cell_number bytes x) (mean_is p at place here ∙ ap (λ n. box_mean bytes size across down (grid_of (shaped source s)) n y) (ap (λ n. n * cells) sample ∙ sym (start_is bytes x))))

-- a pixel of whole samples
pub size_is : (bytes : SampleBytes) (size : ℕ) → size % sample_cells bytes ≡ 0 → size / sample_cells bytes * sample_cells bytes ≡ size
size_is bytes size pixels = omega (arith, div-add-mod' size (sample_cells bytes), pixels)

-- a row of whole pixels
pub row_whole : (bytes : SampleBytes) (count size per width : ℕ) → 0 < size → per * sample_cells bytes ≡ size → width % size ≡ 0 → count * sample_cells bytes ≡ width → count ≡ count / per * per
row_whole bytes count size per width some pixel whole row =
    let cells : ℕ = sample_cells bytes in
    let q : ℕ = width / size in
    let parts : q * size ≡ width = omega (arith, div-add-mod' width size, whole) in
    let all : count * cells ≡ q * per * cells = omega (arith, row, parts, ap (λ n. q * n) pixel, mul_assoc q per cells) in
    let below : count ≤ q * per = le_of_mul-le-mul_right (omega (arith, all)) (cells_some bytes) in
    let above : q * per ≤ count = le_of_mul-le-mul_right (omega (arith, all)) (cells_some bytes) in
    let same : count ≡ q * per + 0 = omega (arith, below, above) in
    let more : 0 < per = lt_of_mul-lt-mul_right cells (omega (arith, pixel, some)) in
    let pixels : count / per ≡ q = ap (λ n. n / per) same ∙ div-mul-add q per 0 more in
    omega (arith, same, ap (λ n. n * per) pixels)
