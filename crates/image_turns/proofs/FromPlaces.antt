-- Images whose pixels come from other places of a source.
use Rattle.std.proofs.Common.{◌≡◌, ℕ, ◌+◌, ◌-◌, ◌*◌, ◌<◌, List, ◌++◌, length, take, drop, sym, ap, ◌∙◌, arith}
use Rattle.std.specs.List.{slice_get}
use Rattle.image_model.specs.Layout.{Layout, Fits, pixel}
use Rattle.image_model.specs.Grid.{grid, grid_of}
use Rattle.image_model.specs.Rows.{row_count}
use Rattle.image_model.proofs.Grids.{pixel_at, same_grids}
use Rattle.image_shape.specs.Shape.{shaped}
use Rattle.image_shape.specs.declared.shape.Shape.{Shape}
use Rattle.image_writes.specs.Gathered.{AreGathered}
use Rattle.image_writes.specs.Written.{Becomes}
use Rattle.image_writes.proofs.RowsWritten.{RowsDone, RowRange, row_written, shows_table, outside_stays}

-- the rows so far show the pixels of a source at other places
module _ {T : Type 0} (l : Layout T) (column line : ℕ → ℕ → ℕ) (old now : List T) (s : Shape) (y : ℕ) (so : RowsDone (λ x j p. p ≡ pixel l (column x j) (line x j)) old now s y) where
  -- one row more, of cells that are taken from those of the source
  pub row_gathered : (from : ℕ → ℕ) {first upto : ℕ} (made : List T) → Fits (shaped old s) → y < row_count s.width s.height → RowRange s y first upto
      → length made ≡ length (take (upto - first) (drop first now)) → AreGathered from l.cells made → ((x : ℕ) → x < s.width → slice_get l.cells (from x) ≡ pixel l (column x y) (line x y))
      → RowsDone (λ x j p. p ≡ pixel l (column x j) (line x j)) old (take first now ++ (made ++ drop (upto - first) (drop first now))) s (y + 1)
  row_gathered from made fits below at as_many taken same =
      row_written _ old now s y so fits below _ _ at made as_many (λ x inside here. taken.each x here ∙ same x inside)

  -- all rows show them
  pub becomes_places : (w h : ℕ) → s.width ≡ w → s.height ≡ h → y ≡ row_count s.width s.height → ((x j : ℕ) → x < w → j < h → (column x j < l.width) × (line x j < l.height))
      → Becomes s old now (grid w h (λ x j. (grid_of l).pixel (column x j) (line x j)))
  becomes_places w h wide high all within = record {
    grid =
        shows_table (λ x j. pixel l (column x j) (line x j)) old now s y so all
        ∙ (λ i. grid (wide i) (high i) (λ x j. pixel l (column x j) (line x j)))
        ∙ same_grids w h _ _ (λ x j in_x in_j. let i = within x j in_x in_j in sym (pixel_at l (column x j) (line x j) i.0 i.1));
    outside = outside_stays (λ x j p. p ≡ pixel l (column x j) (line x j)) old now s y so all;
  }

-- the cell of a row that lies k rows above the last of n
pub rows_back : (n stride y k : ℕ) → k < n → (n - 1) * stride + y - k * stride ≡ (n - 1 - k) * stride + y
rows_back n stride y k below =
    let m : ℕ = n - 1 - k in
    let apart : n - 1 ≡ m + k = omega (arith, below) in
    let split : (n - 1) * stride ≡ m * stride + k * stride = ap (λ i. i * stride) apart ∙ omega arith in
    omega (arith, split)
