-- Rows whose pixels, of several cells, are in the opposite order.
use Rattle.std.proofs.Common.{◌≡◌, ℕ, ◌+◌, ◌-◌, ◌*◌, ◌/◌, ◌%◌, ◌<◌, List, length, sym, ap, ◌∙◌, arith}
use Rattle.std.specs.List.{slice_get}
use Rattle.std.proofs.lemmas.Nat.{mod_below, div_below, div-add-mod'}
use Rattle.image_model.specs.Layout.{Layout, layout}
use Rattle.image_model.specs.Flips.{flipped}
use Rattle.image_model.specs.Grid.{Grid, grid, grid_of}
use Rattle.image_model.specs.Turns.{mirrored}
use Rattle.image_model.proofs.Grids.{at_place, pixel_at}
use Rattle.image_writes.specs.Gathered.{AreGathered}
use Rattle.image_writes.specs.Mirrored.{mirrored_by}
use Rattle.image_writes.proofs.PixelsOfRows.{cells_within}

-- the cell from which cell x of a row of so many pixels comes
abbrev pub reversed_place : ℕ → ℕ → ℕ → ℕ
reversed_place size columns x = (columns - 1 - x / size) * size + x % size

-- the row has it
pub reversed_within : (size columns width x : ℕ) → 0 < size → width ≡ columns * size → x < width → reversed_place size columns x < width
reversed_within size columns width x some wide below =
    let number : x / size < columns = div_below x size columns some (omega (arith, wide, below)) in
    omega (arith, wide, cells_within size columns (columns - 1 - x / size) (x % size) (omega (arith, number)) (mod_below x size some))

-- a row as an image with one pixel in each row, upside down
pub row_reversed : {T : Type 0} (size columns : ℕ) (old new : List T) → 0 < size → length new ≡ columns * size
    → grid_of (layout new size columns size) ≡ flipped (grid_of (layout old size columns size)) → AreGathered (reversed_place size columns) old new
unfolding grid_of flipped
row_reversed {T} size columns old new some many shown = record {
  each = λ k below.
      let x : ℕ = k % size in
      let y : ℕ = k / size in
      let from : Layout T = layout old size columns size in
      let in_x : x < size = mod_below k size some in
      let in_y : y < columns = div_below k size columns some (omega (arith, many, below)) in
      ap (slice_get new) (sym (div-add-mod' k size))
      ∙ sym (pixel_at (layout new size columns size) x y in_x in_y)
      ∙ ap (λ (g : Grid T). g.pixel x y) shown
      ∙ at_place size columns (λ u v. (grid_of from).pixel u (columns - 1 - v)) x y in_x in_y
      ∙ pixel_at from x (columns - 1 - y) in_x (omega (arith, in_y));
}

-- pixels of one cell
pub mirrored_cells : {T : Type 0} (size : ℕ) (g : Grid T) → size ≡ 1 → mirrored g ≡ mirrored_by size g
unfolding mirrored
mirrored_cells size g one =
    let wide : g.width ≡ g.width / 1 = omega arith in
    let same : (x : ℕ) → x ≡ x / 1 = λ x. omega arith in
    let alone : (n x : ℕ) → n ≡ n * 1 + x % 1 = λ n x. let none : x % 1 ≡ 0 = omega arith in omega (arith, none) in
    let column : (x : ℕ) → g.width - 1 - x ≡ (g.width / 1 - 1 - x / 1) * 1 + x % 1 = λ x. (λ i. wide i - 1 - same x i) ∙ alone (g.width / 1 - 1 - x / 1) x in
    (λ i. grid g.width g.height (λ x y. g.pixel (column x i) y)) ∙ ap (λ n. mirrored_by n g) (sym one)
