-- A grid of which each pixel is the mean of the box around it, cut at the grid's edges.
use Rattle.std.specs.Prelude.{◌≡◌, ℕ, ◌+◌, ◌-◌, ◌*◌, ◌/◌, ◌%◌, ◌^◌, ◌<◌, ◌≤◌, ◌⊎◌, min, Some, List, length, slice_get, slice_index_or}
use Rattle.image_model.specs.Grid.{Grid, grid}
use Rattle.image_model.specs.Layout.{Fits}
use Rattle.image_model.specs.Rows.{row_count}
use Rattle.image_shape.specs.Shape.{shape_width, shape_height, shaped}
use Rattle.image_shape.specs.declared.shape.Shape.{Shape}
use Rattle.image_means.specs.Division.{factor_of}
use Rattle.image_means.specs.Means.{mean_of, rounded_mean, sample_at, sample_cells, sample_in, sample_number, sample_start, cell_number, sum_upto}
use Rattle.image_means.specs.declared.blur.Blur.{Blur}
use Rattle.image_means.specs.declared.blur.Place.{Place}
use Rattle.image_shape.specs.declared.samples.SampleBytes.{SampleBytes}

-- where the box around a place begins
abbrev pub box_first : ℕ → ℕ → ℕ
box_first reach at = at - reach

-- and where it ends, among so many
abbrev pub box_end : ℕ → ℕ → ℕ → ℕ
box_end reach count at = min count (at + reach + 1)

-- the mean of the box around the pixel of a column and a line: of the samples at the same place of each of its pixels
abbrev pub box_mean : SampleBytes → ℕ → ℕ → ℕ → Grid ℕ → ℕ → ℕ → ℕ
box_mean bytes size across down g column line =
    mean_of (box_end across (g.width / size) (column / size) - box_first across (column / size)) (box_end down g.height line - box_first down line)
    (λ i j. sample_at bytes (λ n. n) g ((box_first across (column / size) + i) * size + column % size) (box_first down line + j))

-- each sample is the mean of the box around it, and each byte that byte of the mean
abbrev pub blurred : SampleBytes → ℕ → ℕ → ℕ → Grid ℕ → Grid ℕ
blurred bytes size across down g = grid g.width g.height (λ x y. Some (cell_number bytes x (box_mean bytes size across down g (sample_start bytes x) y)))

-- ---- as the code makes it

-- the number in a place of a list
abbrev pub sum_at : List ℕ → ℕ → ℕ
sum_at sums k = slice_index_or sums k 0

-- each sum has the sample of a row more
pub record AddsSamples (bytes : SampleBytes) (row old new : List ℕ) : Type 0 where
  pub as_many : length new ≡ length old
  pub each : (k : ℕ) → k < length old → sum_at new k ≡ sum_at old k + sample_in bytes (λ n. n) row (k * sample_cells bytes)

-- the sum of the samples at one place of each pixel, up to a pixel: a running sum with that up to the box's beginning is that up to its end
abbrev pub pixels_upto : List ℕ → ℕ → ℕ → ℕ → ℕ
pixels_upto sums per at n = sum_upto n (λ p. sum_at sums (p * per + at))

-- the sum of the samples at one place of each pixel of the box around a pixel
abbrev pub box_sum : List ℕ → ℕ → ℕ → ℕ → ℕ → ℕ
box_sum sums per across p at = pixels_upto sums per at (box_end across (length sums / per) p) - pixels_upto sums per at (box_first across p)

-- the mean of the box, of sums over so many lines
abbrev pub sums_mean : List ℕ → ℕ → ℕ → ℕ → ℕ → ℕ → ℕ
sums_mean sums per across lines p at = rounded_mean (box_sum sums per across p at) ((box_end across (length sums / per) p - box_first across p) * lines)

-- the cells from one on are those of a sample
pub record PutsSample (bytes : SampleBytes) (at value : ℕ) (old new : List ℕ) : Type 0 where
  pub as_many : length new ≡ length old
  pub each : (c : ℕ) → c < sample_cells bytes → slice_get new (at + c) ≡ Some (cell_number bytes c value)
  pub others : (k : ℕ) → (k < at) ⊎ (at + sample_cells bytes ≤ k) → slice_get new k ≡ slice_get old k

-- the sum of the box around the pixel before one, with so much more: what the box around this one loses is still in it, and what that one gains isn't
abbrev pub IsSumBefore : List ℕ → ℕ → ℕ → ℕ → ℕ → ℕ → ℕ → Type 0
IsSumBefore sums per at across p more sum = sum + pixels_upto sums per at (p - (across + 1)) ≡ more + pixels_upto sums per at (min (length sums / per) (p + across))

-- such a sum for each of so many places of a pixel
pub record AreSumsBefore (place : Place) (sums : List ℕ) (p more count : ℕ) (numbers : List ℕ) : Type 0 where
  pub each : (i : ℕ) → i < count → IsSumBefore sums place.blur.per (place.at + i) place.blur.across p more (sum_at numbers i)

-- how many samples a box has that no end of the row cuts
abbrev pub whole_count : Place → ℕ
whole_count place = (2 * place.blur.across + 1) * place.lines

-- the least number of columns that a box has, in a row of so many pixels
abbrev pub least_columns : ℕ → ℕ → ℕ
least_columns pixels across = min pixels (across + 1)

-- the factors of boxes of so many lines, by their columns from some on
pub record AreFactors (factors : List ℕ) (least lines : ℕ) : Type 0 where
  pub each : (c : ℕ) → 0 < c → least ≤ c → c < length factors → slice_index_or factors c 0 ≡ factor_of (c * lines)

-- the samples at so many places of these pixels are means of boxes, and all others are as they were
pub record BlursSpan (place : Place) (count : ℕ) (sums : List ℕ) (from end : ℕ) (old new : List ℕ) : Type 0 where
  pub as_many : length new ≡ length old
  pub each : (p i c : ℕ) → from ≤ p → p < end → i < count → c < sample_cells place.blur.bytes
      → slice_get new ((p * place.blur.per + (place.at + i)) * sample_cells place.blur.bytes + c) ≡ Some (cell_number place.blur.bytes c (sums_mean sums place.blur.per place.blur.across place.lines p (place.at + i)))
  pub others : (p a c : ℕ) → a < place.blur.per → p * place.blur.per + a < length sums → c < sample_cells place.blur.bytes → (place.at ≤ a → a < place.at + count → (p < from) ⊎ (end ≤ p))
      → slice_get new ((p * place.blur.per + a) * sample_cells place.blur.bytes + c) ≡ slice_get old ((p * place.blur.per + a) * sample_cells place.blur.bytes + c)

-- the row's samples are means of boxes
pub record BlursRow (bytes : SampleBytes) (sums : List ℕ) (per across lines : ℕ) (old new : List ℕ) : Type 0 where
  pub as_many : length new ≡ length old
  pub each : (p at c : ℕ) → at < per → p * per + at < length sums → c < sample_cells bytes
      → slice_get new ((p * per + at) * sample_cells bytes + c) ≡ Some (cell_number bytes c (sums_mean sums per across lines p at))

-- the sum of the samples in one column of rows, up to a row
abbrev pub column_upto : SampleBytes → List ℕ → ℕ → ℕ → ℕ → ℕ
column_upto bytes cells stride k n = sum_upto n (λ j. sample_in bytes (λ n. n) cells (j * stride + k * sample_cells bytes))

-- each sum has the samples of the rows from one up to another more
pub record AddsRows (bytes : SampleBytes) (cells : List ℕ) (stride from upto : ℕ) (old new : List ℕ) : Type 0 where
  pub as_many : length new ≡ length old
  pub each : (k : ℕ) → k < length old → sum_at new k + column_upto bytes cells stride k from ≡ sum_at old k + column_upto bytes cells stride k upto

-- ---- what the code needs

-- so many samples are a row's
pub record AreSamples (bytes : SampleBytes) (row : List ℕ) (count : ℕ) : Type 0 where
  pub whole : length row ≡ count * sample_cells bytes
  pub room : length row < 2 ^ 32

-- the sums of so many lines, for a row of so many cells, whose pixels have so many samples
pub record AreSumsFor (bytes : SampleBytes) (per lines : ℕ) (sums : List ℕ) (width : ℕ) : Type 0 where
  pub whole : length sums ≡ length sums / per * per
  pub row : width ≡ length sums * sample_cells bytes
  pub room : width < 2 ^ 32
  pub some : 0 < lines
  pub few : lines < 2 ^ 17
  pub bounds : (k : ℕ) → k < length sums → sum_at sums k ≤ lines * sample_number bytes 255 255

-- the samples at so many places of each pixel of a row of so many cells, for which these are sums
pub record CanBlur (place : Place) (count : ℕ) (sums : List ℕ) (width : ℕ) : Type 0 where
  pub some : 0 < place.blur.per
  pub places : place.at + count ≤ place.blur.per
  pub across : place.blur.across < 2 ^ 15
  pub for_row : AreSumsFor place.blur.bytes place.blur.per place.lines sums width

-- the rows from one up to another, of which each has so many samples
pub record HaveRows (bytes : SampleBytes) (cells : List ℕ) (s : Shape) (from upto samples : ℕ) : Type 0 where
  pub fits : Fits (shaped cells s)
  pub room : length cells < 2 ^ 63
  pub order : from ≤ upto
  pub rows : upto ≤ row_count (shape_width s) (shape_height s)
  pub row : shape_width s ≡ samples * sample_cells bytes

-- rows of so many samples, and of whole pixels; the box is below 2^15 to each side
pub record CanBeBlurred (blur : Blur) (cells : List ℕ) (s : Shape) (samples : ℕ) : Type 0 where
  pub fits : Fits (shaped cells s)
  pub room : length cells < 2 ^ 63
  pub per : 0 < blur.per
  pub whole : samples ≡ samples / blur.per * blur.per
  pub row : shape_width s ≡ samples * sample_cells blur.bytes
  pub across : blur.across < 2 ^ 15
  pub down : blur.down < 2 ^ 15
