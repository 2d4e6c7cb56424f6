-- Sums of the numbers in each column of some lines, of which the means of tiles are made.
use Rattle.std.specs.Prelude.{◌≡◌, ℕ, ◌+◌, ◌*◌, ◌^◌, ◌<◌, ◌≤◌, List, length}
use Rattle.image_means.specs.Means.{number_in, rounded_mean, sum_upto, tile_columns, AreLines}
use Rattle.image_means.specs.declared.lines.Lines.{Lines}
use Rattle.image_means.specs.declared.lines.Tile.{Tile}

-- the sum of the numbers in a column of so many lines, of which the first begins at a cell
abbrev pub lines_sum : {T : Type 0} → (T → ℕ) → List T → ℕ → ℕ → ℕ → ℕ → ℕ
lines_sum number cells start stride lines k = sum_upto lines (λ j. number_in number cells (start + k + j * stride))

-- each sum has the number of a row's cell more, which is at most the greatest one
pub record AddsNumbers {T C : Type 0} (number : T → ℕ) (tally : C → ℕ) (greatest : ℕ) (row : List T) (old new : List C) : Type 0 where
  pub as_many : length new ≡ length old
  pub each : (k : ℕ) → k < length old → number_in tally new k ≡ number_in tally old k + number_in number row k
  pub within : (k : ℕ) → k < length old → number_in tally new k ≤ number_in tally old k + greatest

-- the sums of so many lines, of numbers up to the greatest one
pub record AreLineSums {T C : Type 0} (number : T → ℕ) (tally : C → ℕ) (greatest : ℕ) (cells : List T) (start stride lines : ℕ) (sums : List C) : Type 0 where
  pub each : (k : ℕ) → k < length sums → number_in tally sums k ≡ lines_sum number cells start stride lines k
  pub within : (k : ℕ) → k < length sums → number_in tally sums k ≤ lines * greatest

-- the sum of those sums that are so many cells apart, from one on
abbrev pub pixels_sum : {C : Type 0} → (C → ℕ) → List C → ℕ → ℕ → ℕ → ℕ
pixels_sum tally sums size columns x = sum_upto columns (λ i. number_in tally sums (x + i * size))

-- the cell of the mean of the tile that begins at a column, by the sums of so many lines
abbrev pub sums_cell : {T C : Type 0} → (C → ℕ) → (ℕ → T) → ℕ → ℕ → ℕ → List C → ℕ → T
sums_cell tally sample size tile lines sums x =
    sample (rounded_mean (pixels_sum tally sums size (tile_columns size tile (length sums) x) x) (tile_columns size tile (length sums) x * lines))

-- the sums of so many lines from the start of a tile on, of numbers up to the greatest one
pub record AreTileSums {C : Type 0} (tally : C → ℕ) (greatest : ℕ) (sums : List C) (lines : ℕ) (tile : Tile) : Type 0 where
  pub some : 0 < tile.size
  pub wide : 0 < tile.width
  pub short : length sums ≤ 512
  pub within : (k : ℕ) → k < length sums → number_in tally sums k ≤ lines * greatest
  pub any : 0 < lines
  pub few : lines < 2 ^ 16

-- fewer than 2^16 lines, inside so many cells, have tiles of at most 512 cells in a row
pub record HaveNarrowTiles (lines : Lines) (tile : Tile) (count : ℕ) : Type 0 where
  pub inside : AreLines lines count
  pub few : lines.count < 2 ^ 16
  pub some : 0 < tile.size
  pub wide : 0 < tile.width
  pub narrow : tile.width * tile.size ≤ 512
