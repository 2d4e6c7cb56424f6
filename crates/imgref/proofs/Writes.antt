-- What an image shows once a cell or the cells of a window were written, whatever its container.
use Rattle.std.proofs.Common.{◌≡◌, ℕ, ◌+◌, ◌*◌, ◌<◌, ◌≤◌, Bool, List, length, slice_set, sym, ap, ◌∙◌, subst}
use Rattle.image_model.specs.Grid.{grid_of, patch, uniform}
use Rattle.image_model.specs.Layout.{Layout, Fits, SameOutside}
use Rattle.image_model.specs.Windows.{Window, Stretch, IsInside, whole, with_stretch, window_layout}
use Rattle.image_model.proofs.Grids.{written_grid}
use Rattle.image_model.proofs.OneRow.{row_has, row_grid, row_outside}
use Rattle.image_model.proofs.Places.{outside_fits, written, written_outside, written_fits}
use Rattle.image_model.proofs.Stretches.{length-stretch_cells}
use Rattle.image_model.proofs.Windows.{HasWindow, stretch_window, stretch_has, layout_is, handed_on, handed_on_grid, handed_on_outside}
use Rattle.imgref.specs.declared.img.Img.{Img}
use Rattle.imgref.specs.Image.{buf_of, width_of, height_of, stride_of, with_buf, layout_by, stretch_by, with_window, window_buf}
use Rattle.imgref.specs.Written.{WindowPatchesGrid, WindowKeepsOutside, WindowKeepsFit, WindowKeepsContainer}
use Rattle.imgref.specs.Index.{row_start, with_row, RowPatchesGrid, RowKeepsOutside, RowKeepsFit}

-- ---- the cells of a window
module _ {C T : Type 0} (cells : C → List T) (with_cells : C → Stretch → List T → C)
    (others_stay : (c : C) (s : Stretch) (ws : List T) → s.start + s.len ≤ length (cells c) → length ws ≡ s.len → cells (with_cells c s ws) ≡ with_stretch (cells c) s ws)
    (padded : Bool) (i : Img C) (w : Window) (narrow : width_of i ≤ stride_of i) (fits : Fits (layout_by cells i)) (inside : IsInside (width_of i) (height_of i) w) (m : Layout T) (is : m ≡ window_layout padded (layout_by cells i) w) where
  abbrev l : Layout T
  l = layout_by cells i

  abbrev s : Stretch
  s = stretch_by cells padded i w

  has : HasWindow (length l.cells) l.stride w s
  has = stretch_has padded (length l.cells) l.stride l.width l.height w narrow fits inside

  module _ (left : List T) (stays : SameOutside m (record m { cells = left })) where
    same : SameOutside (stretch_window l w s) (record m { cells = left })
    same = subst (λ (v : Layout T). SameOutside v (record m { cells = left })) (is ∙ sym (layout_is padded l w)) stays

    long : length left ≡ s.len
    long = same.length_stays ∙ length-stretch_cells l.cells s has.within

    handed : layout_by cells (with_window cells with_cells padded i w left) ≡ handed_on l s left
    unfolding window_buf
    handed = ap (λ (items : List T). record l { cells = items }) (others_stay (buf_of i) s left has.within long)

  pub window_patches : WindowPatchesGrid cells with_cells padded i w m
  window_patches left stays = ap grid_of (handed left stays) ∙ handed_on_grid l w s has (record m { cells = left }) (same left stays) narrow inside

  pub window_keeps : WindowKeepsOutside cells with_cells padded i w m
  window_keeps left stays = subst (SameOutside l) (sym (handed left stays)) (handed_on_outside l w s has (record m { cells = left }) (same left stays) inside)

  pub window_fits : WindowKeepsFit cells with_cells padded i w m
  window_fits left stays = outside_fits l _ (window_keeps left stays) fits

  module _ (stretch_is_cells : (c : C) (s : Stretch) (ws : List T) → s.start + s.len ≤ length (cells c) → length ws ≡ s.len → with_cells c s ws ≡ with_cells c (whole (cells c)) (with_stretch (cells c) s ws)) where
    pub window_contains : WindowKeepsContainer cells with_cells padded i w m
    unfolding window_buf
    window_contains left stays = stretch_is_cells (buf_of i) s left has.within (long left stays) ∙ ap (with_cells (buf_of i) (whole (cells (buf_of i)))) (sym (others_stay (buf_of i) s left has.within (long left stays)))

-- ---- a row
module _ {C T : Type 0} (cells : C → List T) (with_cells : C → Stretch → List T → C)
    (others_stay : (c : C) (s : Stretch) (ws : List T) → s.start + s.len ≤ length (cells c) → length ws ≡ s.len → cells (with_cells c s ws) ≡ with_stretch (cells c) s ws)
    (i : Img C) (y : ℕ) (fits : Fits (layout_by cells i)) (below : y < height_of i) where
  abbrev its_cells : Stretch
  its_cells = record { start = row_start (layout_by cells i) y; len = width_of i }

  row_handed : (left : List T) → length left ≡ width_of i → layout_by cells (with_row cells with_cells i y left) ≡ handed_on (layout_by cells i) its_cells left
  unfolding with_row
  row_handed left long = ap (λ (items : List T). record (layout_by cells i) { cells = items }) (others_stay (buf_of i) its_cells left (row_has (layout_by cells i) y fits below).within long)

  pub row_patches : width_of i ≤ stride_of i → RowPatchesGrid cells with_cells i y
  row_patches wide left long = ap grid_of (row_handed left long) ∙ row_grid (layout_by cells i) y fits below wide left long

  pub row_keeps : RowKeepsOutside cells with_cells i y
  row_keeps left long = subst (SameOutside (layout_by cells i)) (sym (row_handed left long)) (row_outside (layout_by cells i) y fits below left long)

  pub row_fits : RowKeepsFit cells with_cells i y
  row_fits left long = outside_fits (layout_by cells i) _ (row_keeps left long) fits

-- ---- a cell
module _ {C T : Type 0} (cells : C → List T) (with_cell : C → ℕ → T → C)
    (other_cells_stay : (c : C) (at : ℕ) (value : T) → at < length (cells c) → cells (with_cell c at value) ≡ slice_set (cells c) at value)
    (i : Img C) (x y : ℕ) (within : y * stride_of i + x < length (cells (buf_of i))) (value : T) where
  -- the image with that cell
  abbrev changed : Img C
  changed = with_buf i (with_cell (buf_of i) (y * stride_of i + x) value)

  is_written : layout_by cells changed ≡ written (layout_by cells i) x y value
  is_written = ap (λ (items : List T). record (layout_by cells i) { cells = items }) (other_cells_stay (buf_of i) (y * stride_of i + x) value within)

  pub cell_grid : width_of i ≤ stride_of i → Fits (layout_by cells i) → x < width_of i → y < height_of i → grid_of (layout_by cells (with_buf i (with_cell (buf_of i) (y * stride_of i + x) value))) ≡ patch (grid_of (layout_by cells i)) x y (uniform 1 1 value)
  cell_grid wide fits column line = ap grid_of is_written ∙ written_grid (layout_by cells i) x y value fits wide column line

  pub cell_outside : x < width_of i → y < height_of i → SameOutside (layout_by cells i) (layout_by cells (with_buf i (with_cell (buf_of i) (y * stride_of i + x) value)))
  cell_outside column line = subst (SameOutside (layout_by cells i)) (sym is_written) (written_outside (layout_by cells i) x y value column line)

  pub cell_fits : Fits (layout_by cells i) → Fits (layout_by cells (with_buf i (with_cell (buf_of i) (y * stride_of i + x) value)))
  cell_fits fits = subst Fits (sym is_written) (written_fits (layout_by cells i) x y value fits)
