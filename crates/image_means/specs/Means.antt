-- A grid of which each tile shows the mean of its pixels.
use Rattle.std.specs.Prelude.{◌≡◌, ℕ, zero, suc, ◌+◌, ◌-◌, ◌*◌, ◌/◌, ◌%◌, ◌^◌, ◌==◌, ◌<◌, ◌≤◌, ◌⊎◌, min, Bool, true, false, Some, List, length, slice_get}
use Rattle.std.specs.Option.{option_map_or}
use Rattle.image_model.specs.Grid.{Grid, grid}
use Rattle.image_model.specs.Tiles.{tile_count, tile_start}
use Rattle.image_writes.specs.Mosaic.{shown_column}
use Rattle.image_means.specs.declared.lines.Lines.{Lines}
use Rattle.image_means.specs.declared.lines.Tile.{Tile}
use Rattle.image_shape.specs.declared.samples.SampleBytes.{SampleBytes}
use Rattle.image_shape.specs.declared.samples.SampleBytes.TheVariants.{One, LowFirst, HighFirst}

-- f 0 + f 1 + .., so many of them
abbrev pub sum_upto : ℕ → (ℕ → ℕ) → ℕ
sum_upto zero f = 0
sum_upto (suc n) f = sum_upto n f + f n

-- the mean of so many numbers with this sum, rounded to the nearest number: a half goes up
abbrev pub rounded_mean : ℕ → ℕ → ℕ
rounded_mean sum count = (2 * sum + count) / (2 * count)

-- the mean of the numbers in so many columns of so many lines
abbrev pub mean_of : ℕ → ℕ → (ℕ → ℕ → ℕ) → ℕ
mean_of columns lines number = rounded_mean (sum_upto lines (λ j. sum_upto columns (λ i. number i j))) (columns * lines)

-- how many pixels of so many cells a row has in the tile that begins at a column: the row's end may cut it
abbrev pub tile_columns : ℕ → ℕ → ℕ → ℕ → ℕ
tile_columns size tile width column = tile_count size (min (tile * size) (width - column))

-- the mean of a tile that begins at a column and a line: of the cells at the same place of each of its pixels
abbrev pub tile_mean : {T : Type 0} → (T → ℕ) → ℕ → ℕ → ℕ → Grid T → ℕ → ℕ → ℕ
tile_mean number size tile_width tile_height g column line =
    mean_of (tile_columns size tile_width g.width column) (min tile_height (g.height - line)) (λ i j. option_map_or number (g.pixel (column + i * size) (line + j)) 0)

-- each cell of a pixel is the mean of such cells in the pixel's tile; `number` reads a cell, and `sample` makes one
abbrev pub mean_mosaic_by : {T : Type 0} → (T → ℕ) → (ℕ → T) → ℕ → ℕ → ℕ → Grid T → Grid T
mean_mosaic_by number sample size tile_width tile_height g =
    grid g.width g.height (λ x y. Some (sample (tile_mean number size tile_width tile_height g (shown_column size tile_width x) (tile_start tile_height y))))

-- the same for cells that are numbers themselves
abbrev pub mean_mosaic : ℕ → ℕ → ℕ → Grid ℕ → Grid ℕ
mean_mosaic size tile_width tile_height g = mean_mosaic_by (λ n. n) (λ n. n) size tile_width tile_height g

-- ---- samples of one cell, or of two bytes next to one another

-- how many cells a sample has
abbrev pub sample_cells : SampleBytes → ℕ
sample_cells One = 1
sample_cells LowFirst = 2
sample_cells HighFirst = 2

-- where the sample begins that has a column
abbrev pub sample_start : SampleBytes → ℕ → ℕ
sample_start One x = x
sample_start LowFirst x = x / 2 * 2
sample_start HighFirst x = x / 2 * 2

-- the number of a sample, by those of its first cell and of the one after it
abbrev pub sample_number : SampleBytes → ℕ → ℕ → ℕ
sample_number One first second = first
sample_number LowFirst first second = first + 256 * second
sample_number HighFirst first second = 256 * first + second

-- the low byte of a number, or the high one
abbrev pub byte_of : Bool → ℕ → ℕ
byte_of true n = n % 256
byte_of false n = n / 256

-- the number of the cell in a column of a sample with this number
abbrev pub cell_number : SampleBytes → ℕ → ℕ → ℕ
cell_number One x n = n
cell_number LowFirst x n = byte_of (x % 2 == 0) n
cell_number HighFirst x n = byte_of (x % 2 == 1) n

-- cells with numbers up to the greatest can be the bytes of such a sample
abbrev pub AreBytes : SampleBytes → ℕ → Type 0
AreBytes One greatest = Unit {0}
AreBytes LowFirst greatest = greatest ≡ 255
AreBytes HighFirst greatest = greatest ≡ 255

-- a pixel of so many cells has whole samples, whose bytes can be cells with numbers up to the greatest
pub record HasSamples (bytes : SampleBytes) (greatest size : ℕ) : Type 0 where
  pub kind : AreBytes bytes greatest
  pub some : 0 < size
  pub whole : size % sample_cells bytes ≡ 0

-- rows of so many cells have whole samples, and so has a pixel of a tile, which has columns and rows
pub record CanBeTiled (bytes : SampleBytes) (greatest width : ℕ) (tile : Tile) : Type 0 where
  pub samples : HasSamples bytes greatest tile.size
  pub whole : width % sample_cells bytes ≡ 0
  pub wide : 0 < tile.width
  pub high : 0 < tile.height

-- the number of the sample that begins at a column and a line
abbrev pub sample_at : {T : Type 0} → SampleBytes → (T → ℕ) → Grid T → ℕ → ℕ → ℕ
sample_at bytes number g x y = sample_number bytes (option_map_or number (g.pixel x y) 0) (option_map_or number (g.pixel (x + 1) y) 0)

-- the mean of a tile that begins at a column and a line: of the samples at the same place of each of its pixels
abbrev pub sample_mean : {T : Type 0} → SampleBytes → (T → ℕ) → ℕ → ℕ → ℕ → Grid T → ℕ → ℕ → ℕ
sample_mean bytes number size tile_width tile_height g column line =
    mean_of (tile_columns size tile_width g.width column) (min tile_height (g.height - line)) (λ i j. sample_at bytes number g (column + i * size) (line + j))

-- the cell in a column of the first pixel of a tile, whose samples are the means
abbrev pub mean_cell : {T : Type 0} → SampleBytes → (T → ℕ) → (ℕ → T) → ℕ → ℕ → ℕ → Grid T → ℕ → ℕ → T
mean_cell bytes number sample size tile_width tile_height g column line = sample (cell_number bytes column (sample_mean bytes number size tile_width tile_height g (sample_start bytes column) line))

-- each sample of a pixel is the mean of such samples in the pixel's tile
abbrev pub sample_mosaic_by : {T : Type 0} → SampleBytes → (T → ℕ) → (ℕ → T) → ℕ → ℕ → ℕ → Grid T → Grid T
sample_mosaic_by bytes number sample size tile_width tile_height g =
    grid g.width g.height (λ x y. Some (mean_cell bytes number sample size tile_width tile_height g (shown_column size tile_width x) (tile_start tile_height y)))

-- the same for bytes
abbrev pub sample_mosaic : SampleBytes → ℕ → ℕ → ℕ → Grid ℕ → Grid ℕ
sample_mosaic bytes size tile_width tile_height g = sample_mosaic_by bytes (λ n. n) (λ n. n) size tile_width tile_height g

-- ---- as the code makes it

-- the number in a cell of a list
abbrev pub number_in : {T : Type 0} → (T → ℕ) → List T → ℕ → ℕ
number_in number cells k = option_map_or number (slice_get cells k) 0

-- the number of the sample that begins at a cell of a list
abbrev pub sample_in : {T : Type 0} → SampleBytes → (T → ℕ) → List T → ℕ → ℕ
sample_in bytes number cells k = sample_number bytes (number_in number cells k) (number_in number cells (k + 1))

-- the mean of a tile, whose lines begin at the column of a row that begins at a cell
abbrev pub row_mean : {T : Type 0} → SampleBytes → (T → ℕ) → ℕ → ℕ → ℕ → ℕ → ℕ → ℕ → List T → ℕ → ℕ
row_mean bytes number size tile lines stride start width cells x =
    mean_of (tile_columns size tile width x) lines (λ i j. sample_in bytes number cells (start + x + (j * stride + i * size)))

-- the cell in that column, whose sample is the mean
abbrev pub row_cell : {T : Type 0} → SampleBytes → (T → ℕ) → (ℕ → T) → ℕ → ℕ → ℕ → ℕ → ℕ → ℕ → List T → ℕ → T
row_cell bytes number sample size tile lines stride start width cells x =
    sample (cell_number bytes x (row_mean bytes number size tile lines stride start width cells (sample_start bytes x)))

-- there are lines, inside so many cells
pub record AreLines (lines : Lines) (count : ℕ) : Type 0 where
  pub some : 0 < lines.count
  pub narrow : lines.first.len < 2 ^ 32
  pub apart : lines.first.len ≤ lines.stride
  pub inside : lines.first.start + (lines.stride * (lines.count - 1) + lines.first.len) ≤ count
  pub room : count < 2 ^ 63

-- in the row that begins at a cell, each column of the first pixel of a tile gets a cell
pub record PutsCells {T : Type 0} (what : ℕ → T) (size tile start width : ℕ) (old new : List T) : Type 0 where
  pub as_many : length new ≡ length old
  pub each : (x : ℕ) → x < width → shown_column size tile x ≡ x → slice_get new (start + x) ≡ Some (what x)
  pub others : (k : ℕ) → (k < start) ⊎ (start + width ≤ k) → slice_get new k ≡ slice_get old k

-- lines inside so many cells can have tiles
pub record HaveTiles (bytes : SampleBytes) (greatest : ℕ) (rows : Lines) (tile : Tile) (count : ℕ) : Type 0 where
  pub tiled : CanBeTiled bytes greatest rows.first.len tile
  pub lines : AreLines rows count

-- in the first of these lines, the first pixel of each tile becomes the mean of the tile's pixels in all of them
abbrev pub PutsMeans : {T : Type 0} → SampleBytes → (T → ℕ) → (ℕ → T) → Lines → Tile → List T → List T → Type 0
PutsMeans bytes number sample lines tile old new =
    PutsCells (row_cell bytes number sample tile.size tile.width lines.count lines.stride lines.first.start lines.first.len old) tile.size tile.width lines.first.start lines.first.len old new

-- each place of the first pixel of a tile has a cell
pub record BeginsWith {T : Type 0} (what : ℕ → ℕ → T) (size tile_width tile_height : ℕ) (g : Grid T) (width height : ℕ) : Type 0 where
  pub each : (x y : ℕ) → x < width → y < height → shown_column size tile_width x ≡ x → tile_start tile_height y ≡ y → g.pixel x y ≡ Some (what x y)
