-- The last row of a list of cells: which cells it has, and what an image shows once it is filled.
use Rattle.std.proofs.Common.{◌≡◌, ℕ, zero, suc, ◌+◌, ◌-◌, ◌*◌, ◌<◌, ◌≤◌, List, [], ◌∷◌, ◌++◌, All, subst, length, take, drop, replicate, None, Some, MutBor, refl, sym, ap, ◌∙◌, arith, length-append, length-drop}
use Rattle.std.proofs.lemmas.List.{drop-drop, length-replicate}
use Rattle.std.proofs.lemmas.List.Elements.{All-contains, Contains-push}
use Rattle.std.proofs.Math.Nat.{mul_comm}
use Rattle.std.proofs.Math.Seq.{take-append_seam}
use Rattle.image_model.specs.Grid.{grid_of, patch, uniform}
use Rattle.image_model.specs.Layout.{Layout, Fits, SameOutside}
use Rattle.image_model.specs.Rows.{row_count}
use Rattle.image_model.specs.Windows.{Stretch, with_stretch}
use Rattle.image_model.proofs.Grids.{same_grids}
use Rattle.image_model.proofs.OneRow.{row_has, row_grid, row_outside, one_row_of_one}
use Rattle.image_model.proofs.Places.{outside_refl}
use Rattle.image_model.proofs.Rows.{row_count-wide, some_column}
use Rattle.imgref.specs.Index.{row_start}
use Rattle.imgref.specs.Spacing.{whole_spacing}
use Rattle.imgref.specs.Rows.{let_go, muts_left, cells_left, spacing_left, put_back, Yields, Moves}
use Rattle.image_shape.specs.declared.ends.End.TheVariants.{Last}
use Rattle.image_rows.specs.declared.writing.RowsIterMut.{RowsIterMut}
use Rattle.imgref.specs.declared.img.Img.{Img}
use Rattle.imgref.specs.Image.{buf_of, width_of, stride_of, with_all, grid_by, layout_by}
use Rattle.imgref_examples.specs.Rows.{with_last_row, with_last_of}
use Rattle.imgref_examples.proofs.Replaced.{shows}

-- ---- what a step from the back says, of an iterator over all rows

module _ {T : Type 0} (l : Layout T) (s t : RowsIterMut T) (value : T) (cells : cells_left s ≡ l.cells) (spacing : spacing_left s ≡ whole_spacing l.width l.height l.stride) (counted : length (muts_left s) ≡ row_count l.width l.height) where
  -- at the end there is no row
  pub none_left : Yields Last s None t → Moves Last s None t → cells_left t ≡ with_last_row l value
  none_left steps moved = grind arith

  -- and else the step gives the last one
  pub last_left : Fits l → All (λ row. length row ≡ l.width) (muts_left s) → (row : MutBor (List T)) → Yields Last s (Some row) t → Moves Last s (Some row) t
      → put_back Last s (replicate (length row.now) value) (cells_left t) ≡ with_last_row l value
  last_left fits all_wide row steps moved =
      let n : ℕ = row_count l.width l.height in
      let some : 0 < n = omega (arith, counted, ap length steps, length-append (muts_left t) (row.now ∷ [])) in
      let column : 0 < l.width = some_column l.width l.height 0 some in
      let high : n ≡ l.height = row_count-wide l.width l.height column in
      let start : ℕ = (n - 1) * l.stride in
      let start_is : start ≡ l.stride * (l.height - 1) = let e : n - 1 ≡ l.height - 1 = omega (arith, high) in ap (λ k. k * l.stride) e ∙ mul_comm (l.height - 1) l.stride in
      let reach : start + l.width ≤ length l.cells = omega (arith, start_is, fits column (omega (arith, some, high))) in
      let wide : length row.now ≡ l.width = All-contains (λ r. length r ≡ l.width) (muts_left t ++ row.now ∷ []) row.now (subst (All (λ r. length r ≡ l.width)) steps all_wide) (Contains-push (muts_left t) row.now) in
      let gone : List T = let_go Last (spacing_left s) (cells_left s) in
      let from_start : 0 + start ≡ start = omega arith in
      let back : gone ≡ drop (start + l.width) l.cells = (λ i. let_go Last (spacing i) (cells i)) ∙ ap (λ k. drop l.width (drop k l.cells)) from_start ∙ drop-drop l.width start l.cells in
      let parts : cells_left t ++ (row.now ++ gone) ≡ l.cells = sym moved.0 ∙ cells in
      let before : length (cells_left t) ≡ start = omega (
        arith,
        ap length parts,
        length-append (cells_left t) (row.now ++ gone),
        length-append row.now gone,
        ap length back,
        length-drop (start + l.width) l.cells,
        wide,
        reach,
      ) in
      let front : cells_left t ≡ take start l.cells = sym (take-append_seam (cells_left t) (row.now ++ gone)) ∙ ap (λ k. take k (cells_left t ++ (row.now ++ gone))) before ∙ ap (take start) parts in
      let more : suc (n - 1) ≡ n = omega (arith, some) in
      (λ i. front i ++ (replicate (wide i) value ++ back i)) ∙ ap (λ k. with_last_of k l value) more

-- ---- what the image shows

module _ {T : Type 0} (l : Layout T) (narrow : l.width ≤ l.stride) (fits : Fits l) (value : T) where
  abbrev with_rows : ℕ → Layout T
  with_rows n = record l { cells = with_last_of n l value }

  module _ (n : ℕ) (counted : suc n ≡ row_count l.width l.height) where
    wide : 0 < l.width
    wide = some_column l.width l.height 0 (omega (arith, counted))

    high : suc n ≡ l.height
    high = counted ∙ row_count-wide l.width l.height wide

    start_is : n * l.stride ≡ l.stride * (l.height - 1)
    start_is = let e : n ≡ l.height - 1 = omega (arith, high) in ap (λ k. k * l.stride) e ∙ mul_comm (l.height - 1) l.stride

    below : l.height - 1 < l.height
    below = omega (arith, high)

    same : row_start l (l.height - 1) ≡ n * l.stride
    same = omega (arith, (row_has l (l.height - 1) fits below).begins wide (omega arith), start_is)

    -- filled from cell k on
    abbrev from : ℕ → Layout T
    from k = record l { cells = with_stretch l.cells (record { start = k; len = l.width }) (replicate l.width value) }

    filled_grid : grid_of (with_rows (suc n)) ≡ patch (grid_of l) 0 (l.height - 1) (uniform l.width 1 value)
    filled_grid = grind (arith, same, row_grid, below, length-replicate, one_row_of_one)

    filled_outside : SameOutside l (with_rows (suc n))
    filled_outside = subst (λ k. SameOutside l (from k)) same (row_outside l (l.height - 1) fits below (replicate l.width value) (length-replicate l.width value))

  -- without a row there is no place
  no_place : 0 ≡ row_count l.width l.height → (x y : ℕ) → x < l.width → y < l.height → ⊥
  no_place none x y column line = omega (arith, none, row_count-wide l.width l.height (omega arith))

  grid_with : (n : ℕ) → n ≡ row_count l.width l.height → grid_of (with_rows n) ≡ patch (grid_of l) 0 (l.height - 1) (uniform l.width 1 value)
  unfolding grid_of patch
  grid_with zero none = same_grids l.width l.height _ _ (λ x y column line. absurd (no_place none x y column line))
  grid_with (suc n) counted = filled_grid n counted

  outside_with : (n : ℕ) → n ≡ row_count l.width l.height → SameOutside l (with_rows n)
  outside_with zero none = outside_refl l
  outside_with (suc n) counted = filled_outside n counted

  abbrev filled : Layout T
  filled = record l { cells = with_last_row l value }

  -- with the last row filled, an image shows the patch of that row
  last_row_grid : grid_of filled ≡ patch (grid_of l) 0 (l.height - 1) (uniform l.width 1 value)
  last_row_grid = grid_with (row_count l.width l.height) refl

  -- and what lies outside its pixels is as before
  last_row_outside : SameOutside l filled
  last_row_outside = outside_with (row_count l.width l.height) refl

-- ---- an image whose cells were so filled

module _ {C T : Type 0} (cells : C → List T) (with_cells : C → Stretch → List T → C)
    (others_stay : (c : C) (s : Stretch) (ws : List T) → s.start + s.len ≤ length (cells c) → length ws ≡ s.len → cells (with_cells c s ws) ≡ with_stretch (cells c) s ws)
    (i j : Img C) (value : T) (is : j ≡ with_all cells with_cells i (with_last_row (layout_by cells i) value)) (narrow : width_of i ≤ stride_of i) (fits : Fits (layout_by cells i)) where
  abbrev old : Layout T
  old = layout_by cells i

  pub image_shows : (grid_by cells j ≡ patch (grid_of old) 0 (old.height - 1) (uniform old.width 1 value)) × SameOutside old (layout_by cells j) × (j ≡ with_all cells with_cells i (cells (buf_of j)))
  image_shows = let outside = last_row_outside old narrow fits value in shows cells with_cells others_stay i j (with_last_row old value) is outside.length_stays _ (last_row_grid old narrow fits value) outside
