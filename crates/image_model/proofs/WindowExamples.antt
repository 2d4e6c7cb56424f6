-- Worked windows, paths, writes and shifts, computed on the images of `Examples`.
use Rattle.std.proofs.Common.{◌≡◌, ◌^◌, ◌+◌, ◌-◌, ◌*◌, ◌<◌, true, false, ℕ, zero, suc, Some, None, [], ◌∷◌, refl, set, arith}
use Rattle.std.specs.List.{slice_get}
use Rattle.image_model.specs.Layout.{cell_of}
use Rattle.image_model.specs.Grid.{grid_of, patch, uniform, view}
use Rattle.image_model.specs.Rows.{rows, pixels, grid_rows, grid_pixels}
use Rattle.image_model.specs.Windows.{window, is_inside, window_view, exact_window, padded_window, with_stretch, stretch_cells, first_outside, path_window, path_stretch, whole, path_layout, path_view}
use Rattle.image_model.specs.Shifts.{shifted, rows_compacted, rows_moved, MovesRows, IsCellOf}
use Rattle.image_model.proofs.Examples.{image, padded, exact}

-- ---- windows

-- whole strides where the parent has them
whole_strides : (padded_window padded (window 0 1 3 1)).cells ≡ 5 ∷ 6 ∷ 7 ∷ 8 ∷ []
whole_strides = refl

-- exact, up to the last pixel
to_the_last_pixel : (exact_window padded (window 0 1 3 1)).cells ≡ 5 ∷ 6 ∷ 7 ∷ []
to_the_last_pixel = refl

-- a window of two rows with whole strides
two_rows : (padded_window padded (window 1 0 2 2)).cells ≡ 2 ∷ 3 ∷ 4 ∷ 5 ∷ 6 ∷ 7 ∷ 8 ∷ 9 ∷ []
two_rows = refl

-- the same, exact
two_rows_exact : (exact_window padded (window 1 0 2 2)).cells ≡ 2 ∷ 3 ∷ 4 ∷ 5 ∷ 6 ∷ 7 ∷ []
two_rows_exact = refl

-- its rows are the view's
two_rows_view : grid_rows (window_view (grid_of padded) (window 1 0 2 2)) ≡ rows (exact_window padded (window 1 0 2 2))
unfolding view grid_of
two_rows_view = refl

-- where the parent lacks the last whole stride the window is exact
stride_lacking : (padded_window exact (window 1 1 2 2)).cells ≡ 5 ∷ 6 ∷ 0 ∷ 7 ∷ 8 ∷ 9 ∷ []
stride_lacking = refl

-- the empty window at the lower edge is inside, and has no cell
edge_inside : is_inside 2 2 (window 0 2 1 0) ≡ true
edge_inside = refl

edge_empty : (padded_window (image (1 ∷ 2 ∷ 3 ∷ 4 ∷ 5 ∷ []) 2 2 3) (window 0 2 1 0)).cells ≡ []
edge_empty = refl

-- numbers near the greatest are outside
far_outside : is_inside 3 2 (window (2 ^ 64 - 1) 0 1 1) ≡ false
far_outside = refl

-- ---- paths

-- a window of a window, its cells taken window by window
nested_cells : (path_layout padded (window 1 0 2 2 ∷ window 1 0 1 2 ∷ [])).cells ≡ 3 ∷ 4 ∷ 5 ∷ 6 ∷ 7 ∷ []
nested_cells = refl

-- its pixels
nested_pixels : pixels (path_layout padded (window 1 0 2 2 ∷ window 1 0 1 2 ∷ [])) ≡ 3 ∷ 7 ∷ []
nested_pixels = refl

-- the view through the path has them too
nested_view : grid_pixels (path_view (grid_of padded) (window 1 0 2 2 ∷ window 1 0 1 2 ∷ [])) ≡ 3 ∷ 7 ∷ []
unfolding view grid_of
nested_view = refl

-- the corners add up
nested_window : path_window 3 2 (window 1 0 2 2 ∷ window 1 0 1 2 ∷ []) ≡ window 2 0 1 2
nested_window = refl

-- the empty path is the whole image with its whole list of cells
empty_path : path_layout padded [] ≡ padded
empty_path = refl

-- the first window that is outside the one before it, though inside the image
second_outside : first_outside 3 2 (window 1 0 2 2 ∷ window 2 0 1 1 ∷ window 9 9 9 9 ∷ []) ≡ Some 1
second_outside = refl

-- a path whose windows are all inside
none_outside : first_outside 3 2 (window 1 0 2 2 ∷ window 1 0 1 2 ∷ []) ≡ None
none_outside = refl

-- ---- writes

-- a write at a place changes that cell alone
put_cells : set padded.cells (cell_of padded 1 1) 9 ≡ 1 ∷ 2 ∷ 3 ∷ 4 ∷ 5 ∷ 9 ∷ 7 ∷ 8 ∷ 9 ∷ []
put_cells = refl

-- the same through a window: its stretch is put back with one cell changed, and the padding survives
put_in_window :
    let s = path_stretch 4 (whole padded.cells) (window 1 1 2 1 ∷ []) in
    with_stretch padded.cells s (set (stretch_cells padded.cells s) 0 9) ≡ 1 ∷ 2 ∷ 3 ∷ 4 ∷ 5 ∷ 9 ∷ 7 ∷ 8 ∷ 9 ∷ []
put_in_window = refl

-- the grid is patched with one pixel
put_grid : grid_pixels (patch (grid_of padded) 1 1 (uniform 1 1 9)) ≡ 1 ∷ 2 ∷ 3 ∷ 5 ∷ 9 ∷ 7 ∷ []
unfolding patch grid_of uniform
put_grid = refl

-- a copy to the lower right that overlaps its source: the old pixels arrive
copy_downward : grid_rows (patch (grid_of exact) 1 1 (window_view (grid_of exact) (window 0 0 2 2))) ≡ (1 ∷ 2 ∷ 3 ∷ []) ∷ (4 ∷ 1 ∷ 2 ∷ []) ∷ (7 ∷ 4 ∷ 5 ∷ []) ∷ []
unfolding patch grid_of view
copy_downward = refl

-- and one to the upper left
copy_upward : grid_rows (patch (grid_of exact) 0 0 (window_view (grid_of exact) (window 1 1 2 2))) ≡ (5 ∷ 6 ∷ 3 ∷ []) ∷ (8 ∷ 9 ∷ 6 ∷ []) ∷ (7 ∷ 8 ∷ 9 ∷ []) ∷ []
unfolding patch grid_of view
copy_upward = refl

-- a window filled, with the padding and the pixels beside it as before
fill_grid : grid_pixels (patch (grid_of padded) 1 0 (uniform 2 2 0)) ≡ 1 ∷ 0 ∷ 0 ∷ 5 ∷ 0 ∷ 0 ∷ []
unfolding patch grid_of uniform
fill_grid = refl

-- ---- shifts

-- three cells, one to the front
shift_down : shifted {T = ℕ} (1 ∷ 2 ∷ 3 ∷ 4 ∷ []) 1 3 0 ≡ 2 ∷ 3 ∷ 4 ∷ 4 ∷ []
shift_down = refl

-- three cells, one to the back: the old cells arrive
shift_up : shifted {T = ℕ} (1 ∷ 2 ∷ 3 ∷ 4 ∷ []) 0 3 1 ≡ 1 ∷ 1 ∷ 2 ∷ 3 ∷ []
shift_up = refl

-- two cells onto themselves
shift_nowhere : shifted {T = ℕ} (1 ∷ 2 ∷ 3 ∷ 4 ∷ []) 2 2 2 ≡ 1 ∷ 2 ∷ 3 ∷ 4 ∷ []
shift_nowhere = refl

-- three rows of one column, compacted by two shifts
compact_by_shifts : shifted {T = ℕ} (shifted {T = ℕ} (1 ∷ 2 ∷ 3 ∷ 4 ∷ 5 ∷ []) 2 1 1) 4 1 2 ≡ 1 ∷ 3 ∷ 5 ∷ 4 ∷ 5 ∷ []
compact_by_shifts = refl

-- as many as there are rows but the first
compaction_counts : rows_compacted 1 3 2 ≡ 2
compaction_counts = refl

-- and none where the rows touch
compaction_of_touching : rows_compacted 2 3 2 ≡ 0
compaction_of_touching = refl

-- two rows of three that overlap, moved to the back by two shifts, the last row first
move_by_shifts : shifted {T = ℕ} (shifted {T = ℕ} (1 ∷ 2 ∷ 3 ∷ 4 ∷ 5 ∷ 6 ∷ 7 ∷ 8 ∷ []) 3 3 5) 0 3 2 ≡ 1 ∷ 2 ∷ 1 ∷ 2 ∷ 3 ∷ 4 ∷ 5 ∷ 6 ∷ []
move_by_shifts = refl

-- rows of no column take no shift
move_counts_none : rows_moved 0 3 ≡ 0
move_counts_none = refl

-- a row of three moved by one cell
moves_a_row : MovesRows {T = ℕ} (1 ∷ 2 ∷ 3 ∷ 4 ∷ []) (1 ∷ 1 ∷ 2 ∷ 3 ∷ []) 4 0 1 3 1
moves_a_row = record { length_stays = refl; moved = in_the_row; others_stay = before_the_row }
  where
    in_the_row : (x y : ℕ) → x < 3 → y < 1 → slice_get {X = ℕ} (1 ∷ 1 ∷ 2 ∷ 3 ∷ []) (1 + y * 4 + x) ≡ slice_get {X = ℕ} (1 ∷ 2 ∷ 3 ∷ 4 ∷ []) (0 + y * 4 + x)
    in_the_row zero zero p q = refl
    in_the_row (suc zero) zero p q = refl
    in_the_row (suc (suc zero)) zero p q = refl
    in_the_row (suc (suc (suc x))) zero p q = absurd (omega arith)
    in_the_row x (suc y) p q = absurd (omega arith)

    before_the_row : (k : ℕ) → (IsCellOf 1 4 3 1 k → ⊥) → slice_get {X = ℕ} (1 ∷ 1 ∷ 2 ∷ 3 ∷ []) k ≡ slice_get {X = ℕ} (1 ∷ 2 ∷ 3 ∷ 4 ∷ []) k
    before_the_row zero h = refl
    before_the_row (suc zero) h = absurd (h (record { x = 0; y = 0; column = omega arith; line = omega arith; there = refl }))
    before_the_row (suc (suc zero)) h = absurd (h (record { x = 1; y = 0; column = omega arith; line = omega arith; there = refl }))
    before_the_row (suc (suc (suc zero))) h = absurd (h (record { x = 2; y = 0; column = omega arith; line = omega arith; there = refl }))
    before_the_row (suc (suc (suc (suc k)))) h = refl
