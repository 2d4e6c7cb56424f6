-- A row as a window of one line, and what an image shows once other pixels, as many, are in its place.
use Rattle.std.proofs.Common.{◌≡◌, ℕ, ◌*◌, ◌<◌, ◌≤◌, inl, inr, List, length, take, drop, replicate, refl, sym, ap, ◌∙◌, subst, arith}
use Rattle.std.proofs.lemmas.Bool.{cases_lt}
use Rattle.std.proofs.lemmas.List.{length-replicate}
use Rattle.std.proofs.lemmas.Option.{slice_get_past}
use Rattle.std.proofs.Math.Nat.{mul_comm, zero-mul}
use Rattle.image_model.specs.Layout.{Layout, Fits, SameOutside, layout}
use Rattle.image_model.specs.Grid.{grid_of, patch, uniform, one_row}
use Rattle.image_model.specs.Rows.{row}
use Rattle.image_model.specs.Windows.{Window, Stretch, window, window_start, exact_len}
use Rattle.image_model.proofs.Cells.{slice_get-replicate}
use Rattle.image_model.proofs.Rows.{row_stretch as row_cells}
use Rattle.image_model.proofs.Stretches.{length-stretch_cells}
use Rattle.image_model.proofs.Windows.{HasWindow, exact_has, stretch_window, handed_on, handed_on_grid, handed_on_outside}

-- the cells of a window of one line are as many as its columns
one_line : (stride y width : ℕ) → exact_len stride (window 0 y width 1) ≡ width
one_line stride y width = grind arith

-- one row as a grid
pub one_row_is : {T : Type 0} (cells : List T) (width stride : ℕ) → length cells ≡ width → grid_of (layout cells width 1 stride) ≡ one_row cells
unfolding grid_of one_row
one_row_is cells width stride long = grind arith

-- a row of one value
pub one_row_of_one : {T : Type 0} (n : ℕ) (value : T) → one_row (replicate n value) ≡ uniform n 1 value
unfolding one_row uniform
one_row_of_one n value = grind (arith, length-replicate, slice_get-replicate)

module _ {T : Type 0} (l : Layout T) (y : ℕ) (fits : Fits l) (below : y < l.height) where
  abbrev line : Window
  line = window 0 y l.width 1

  -- the cells of row y
  abbrev pub row_stretch : Stretch
  row_stretch = record { start = window_start l.stride (window 0 y l.width 1); len = l.width }

  pub row_has : HasWindow (length l.cells) l.stride (window 0 y l.width 1) (record { start = window_start l.stride (window 0 y l.width 1); len = l.width })
  row_has = subst (λ n. HasWindow (length l.cells) l.stride line (record { start = window_start l.stride line; len = n })) (one_line l.stride y l.width) (exact_has (length l.cells) l.stride l.width l.height line fits (omega arith, omega (arith, below)))

  -- they have the row's pixels
  pub row_is : take l.width (drop row_stretch.start l.cells) ≡ row l y
  row_is =
      elim (cases_lt 0 l.width) [
        | inl wide ↦ ap (λ n. take l.width (drop n l.cells)) (row_has.begins wide (omega arith) ∙ omega (arith, mul_comm l.stride y)) ∙ sym (row_cells l y)
        | inr none ↦ let narrow : l.width ≡ 0 = omega (arith, none) in ap (λ n. take n (drop row_stretch.start l.cells)) narrow ∙ sym (row_cells l y ∙ ap (λ n. take n (drop (y * l.stride) l.cells)) narrow)
      ]

  -- other pixels, as many, leave its outside
  pub row_same : (cells : List T) → length cells ≡ l.width → SameOutside (stretch_window l (window 0 y l.width 1) row_stretch) (layout cells l.width 1 l.stride)
  row_same cells long =
      let as_long = length-stretch_cells l.cells row_stretch row_has.within in
      record {
        width_stays = refl;
        height_stays = refl;
        stride_stays = refl;
        length_stays = long ∙ sym as_long;
        padding_stays = λ k padding. elim (cases_lt k l.width) [
          | inl in_row ↦ absurd (padding.no_place k 0 in_row (omega arith) (omega (arith, zero-mul l.stride)))
          | inr past ↦ slice_get_past cells k (omega (arith, long)) ∙ sym (slice_get_past (stretch_window l line row_stretch).cells k (omega (arith, as_long)))
        ];
      }

  pub row_outside : (cells : List T) → length cells ≡ l.width → SameOutside l (handed_on l row_stretch cells)
  row_outside cells long = handed_on_outside l line row_stretch row_has (layout cells l.width 1 l.stride) (row_same cells long) (omega arith, omega (arith, below))

  pub row_grid : l.width ≤ l.stride → (cells : List T) → length cells ≡ l.width → grid_of (handed_on l row_stretch cells) ≡ patch (grid_of l) 0 y (one_row cells)
  row_grid wide cells long =
      handed_on_grid l line row_stretch row_has (layout cells l.width 1 l.stride) (row_same cells long) wide (omega arith, omega (arith, below))
      ∙ ap (patch (grid_of l) 0 y) (one_row_is cells l.width l.stride long)
