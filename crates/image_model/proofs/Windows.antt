-- A window's cells among its parent's: which they are, what they show, and what a write to them does.
use Rattle.std.proofs.Common.{true, ◌≡◌, ◌≢◌, ℕ, ◌+◌, ◌-◌, ◌*◌, ◌<◌, ◌≤◌, Bool, suc, false, inl, inr, List, length, refl, sym, ap, ◌∙◌, subst, arith, nat_le, if◌then◌else◌, rules}
use Rattle.std.specs.List.{slice_get}
use Rattle.std.specs.Bool.{Decides}
use Rattle.std.proofs.lemmas.Bool.Decides.{nat_tests}
use Rattle.std.proofs.lemmas.Bool.{leb-true, cases_lt, cases_Bool, cond-true, cond-false, cond_both, true≢false}
use Rattle.std.proofs.lemmas.Nat.{same_from_place}
use Rattle.std.proofs.Math.Nat.{mul-le-mul_left, mul-suc}
use Rattle.image_model.specs.Layout.{Layout, layout, Reaches, Fits, cell_of, pixel, SameOutside}
use Rattle.image_model.specs.Grid.{grid_of, covers, patch, view, uniform}
use Rattle.image_model.specs.Windows.{Window, IsInside, is_inside, is_empty, window_view, Stretch, window_start, exact_stretch, padded_stretch, stretch_cells, with_stretch, exact_window, padded_window, window_stretch, window_layout, IsWithin}
use Rattle.image_model.proofs.Places.{reached}
use Rattle.image_model.proofs.Grids.{covers_decides, pixel_at, is_patch}
use Rattle.image_model.proofs.Stretches.{stretch_cell, length-stretch_cells, length-with_stretch, with_stretch_at, with_stretch_beside}

-- the test of a window tells whether it is inside
pub is_inside_decides : (width height : ℕ) (w : Window) → Decides (is_inside width height w) (IsInside width height w)
is_inside_decides width height w = grind arith

-- a window's last pixel has a cell
pub window_within : (count stride width height : ℕ) (w : Window) → Reaches count width height stride → IsInside width height w
    → 0 < w.width → 0 < w.height → stride * w.top + w.left + (stride * (w.height - 1) + w.width) ≤ count
window_within count stride width height w fits inside wide high = grind (arith, mul-le-mul_left)

-- ---- which cells a window has

-- a stretch of so many cells has a window's: where there is a pixel it begins at the corner and reaches the last one
pub record HasWindow (count stride : ℕ) (w : Window) (s : Stretch) : Type 0 where
  pub begins : 0 < w.width → 0 < w.height → s.start ≡ stride * w.top + w.left
  pub reaches : Reaches s.len w.width w.height stride
  pub within : s.start + s.len ≤ count

-- a window is empty, or it has a column and a line
is_empty_decides : (w : Window) → Decides (is_empty w) (0 < w.width → 0 < w.height → ⊥)
is_empty_decides w = (λ e wide high. grind (arith, nat_tests), λ none. grind (arith, nat_tests))

has_place : (w : Window) → is_empty w ≡ false → (0 < w.width) × (0 < w.height)
has_place w some = grind arith

-- so many cells from a window's corner have it, where they reach its last pixel and are there
from_corner : (count stride : ℕ) (w : Window) (len : ℕ) → Reaches len w.width w.height stride → (0 < w.width → 0 < w.height → stride * w.top + w.left + len ≤ count)
    → HasWindow count stride w (record { start = window_start stride w; len = if is_empty w then 0 else len })
from_corner count stride w len reaches within =
    elim (cases_Bool (is_empty w)) [
      | inl empty ↦
          let none = (is_empty_decides w).0 empty in
          let start : window_start stride w ≡ 0 = cond-true (is_empty w) 0 (stride * w.top + w.left) empty in
          let no_len : (if is_empty w then 0 else len) ≡ 0 = cond-true (is_empty w) 0 len empty in
          record {
            begins = λ wide high. absurd (none wide high);
            reaches = λ wide high. absurd (none wide high);
            within = rw (start, no_len) (omega arith);
          }
      | inr some ↦
          let start : window_start stride w ≡ stride * w.top + w.left = cond-false (is_empty w) 0 (stride * w.top + w.left) some in
          let all : (if is_empty w then 0 else len) ≡ len = cond-false (is_empty w) 0 len some in
          record {
            begins = λ wide high. start;
            reaches = λ wide high. rw all (reaches wide high);
            within = let p = has_place w some in rw (start, all) (within p.0 p.1);
          }
    ]

-- the exact stretch has a window inside
pub exact_has : (count stride width height : ℕ) (w : Window) → Reaches count width height stride → IsInside width height w → HasWindow count stride w (exact_stretch stride w)
exact_has count stride width height w fits inside = search (rules, window_within, from_corner)

-- and so has the padded stretch
pub padded_has : (count stride width height : ℕ) (w : Window) → width ≤ stride → Reaches count width height stride → IsInside width height w → HasWindow count stride w (padded_stretch count stride w)
padded_has count stride width height w wide fits inside =
    let exact : ℕ = stride * (w.height - 1) + w.width in
    let all : ℕ = stride * w.height in
    let room : Bool = nat_le (stride * w.top + w.left + all) count in
    let enough : 0 < w.width → 0 < w.height → exact ≤ all = λ column line.
    let last : w.height ≡ suc (w.height - 1) = omega arith in
    omega (arith, inside, ap (λ n. stride * n) last ∙ mul-suc stride (w.height - 1)) in
    from_corner count stride w (if room then all else exact)
    (cond_both room all exact (λ n. Reaches n w.width w.height stride) (λ _. enough) (λ _ column line. omega arith))
    (cond_both room all exact (λ n. 0 < w.width → 0 < w.height → stride * w.top + w.left + n ≤ count)
    (λ e column line. leb-true (stride * w.top + w.left + all) count e)
    (λ _. window_within count stride width height w fits inside))

-- ---- what they show

-- the window of a stretch as a layout of its own
abbrev pub stretch_window : {T : Type 0} → Layout T → Window → Stretch → Layout T
stretch_window l w s = layout (stretch_cells l.cells s) w.width w.height l.stride

-- the image with other cells in the place of a stretch
abbrev pub handed_on : {T : Type 0} → Layout T → Stretch → List T → Layout T
handed_on l s others = record l { cells = with_stretch l.cells s others }

module _ {T : Type 0} (l : Layout T) (w : Window) (s : Stretch) (has : HasWindow (length l.cells) l.stride w s) where
  -- a window fits
  pub window_fits : Fits (stretch_window l w s)
  window_fits wide high = rw (length-stretch_cells l.cells s has.within) (has.reaches wide high)

  -- a place's cell lies after the window's start by the cell that the window has for it
  pub window_cell : (x y : ℕ) → x < w.width → y < w.height → s.start + (y * l.stride + x) ≡ cell_of l (w.left + x) (w.top + y)
  window_cell x y column line = grind arith

  -- a window's place has the pixel of the corner plus the place
  pub window_pixel : (x y : ℕ) → x < w.width → y < w.height → pixel (stretch_window l w s) x y ≡ pixel l (w.left + x) (w.top + y)
  window_pixel x y column line = grind (arith, stretch_cell)

  -- a window shows the view
  pub window_grid : IsInside l.width l.height w → grid_of (stretch_window l w s) ≡ window_view (grid_of l) w
  unfolding grid_of view patch uniform
  window_grid inside = search (rules, window_pixel)

  module _ (others : List T) (same : SameOutside (stretch_window l w s) (layout others w.width w.height l.stride)) where
    as_many : length others ≡ s.len
    as_many = same.length_stays ∙ length-stretch_cells l.cells s has.within

    -- each cell that is no place of the window stays
    elsewhere : (k : ℕ) → ((x y : ℕ) → x < w.width → y < w.height → cell_of l (w.left + x) (w.top + y) ≢ k)
        → slice_get (with_stretch l.cells s others) k ≡ slice_get l.cells k
    elsewhere k none =
        let beside = with_stretch_beside l.cells s others has.within as_many k in
        elim (cases_lt k s.start) [
          | inl before ↦ beside (inl before)
          | inr from ↦ elim (cases_lt k (s.start + s.len)) [
            | inl to ↦
                let j : ℕ = k - s.start in
                let there : s.start + j ≡ k = omega arith in
                ap (slice_get (with_stretch l.cells s others)) (sym there)
                ∙ with_stretch_at l.cells s others has.within j (omega (arith, as_many))
                ∙ same.padding_stays j (record { no_place = λ x y column line e. none x y column line (sym (window_cell x y column line) ∙ ap (λ n. s.start + n) e ∙ there) })
                ∙ stretch_cell l.cells s j (omega arith)
                ∙ ap (slice_get l.cells) there
            | inr after ↦ beside (inr after)
          ]
        ]

    outside_of : IsInside l.width l.height w → SameOutside l (handed_on l s others)
    outside_of inside = record {
      width_stays = refl;
      height_stays = refl;
      stride_stays = refl;
      length_stays = length-with_stretch l.cells s others has.within as_many;
      padding_stays = λ k padding. elsewhere k (λ x y column line. padding.no_place (w.left + x) (w.top + y) (omega (arith, inside)) (omega (arith, inside)));
    }

    grid_of_others : l.width ≤ l.stride → IsInside l.width l.height w
        → grid_of (handed_on l s others) ≡ patch (grid_of l) w.left w.top (grid_of (layout others w.width w.height l.stride))
    unfolding grid_of
    grid_of_others wide inside = is_patch (grid_of l) w.left w.top (grid_of (layout others w.width w.height l.stride)) (pixel (handed_on l s others)) in_window beside
      where
        in_window : (u v : ℕ) → u < l.width → v < l.height → covers w.left w.top w.width w.height u v ≡ true
            → pixel (handed_on l s others) u v ≡ (grid_of (layout others w.width w.height l.stride)).pixel (u - w.left) (v - w.top)
        in_window u v in_u in_v hit =
            let c = (covers_decides w.left w.top w.width w.height u v).0 hit in
            let x : ℕ = u - w.left in
            let y : ℕ = v - w.top in
            let same_u : w.left + x ≡ u = omega (arith, c) in
            let same_v : w.top + y ≡ v = omega (arith, c) in
            let column : x < w.width = omega (arith, c) in
            let line : y < w.height = omega (arith, c) in
            let there : cell_of l (w.left + x) (w.top + y) ≡ cell_of l u v = ap (cell_of l (w.left + x)) same_v ∙ ap (λ n. cell_of l n v) same_u in
            ap (slice_get (with_stretch l.cells s others)) (sym (window_cell x y column line ∙ there))
            ∙ with_stretch_at l.cells s others has.within (y * l.stride + x) (omega (arith, as_many, reached s.len w.width w.height l.stride x y has.reaches column line))
            ∙ sym (pixel_at (layout others w.width w.height l.stride) x y column line)

        beside : (u v : ℕ) → u < l.width → v < l.height → covers w.left w.top w.width w.height u v ≡ false → pixel (handed_on l s others) u v ≡ (grid_of l).pixel u v
        beside u v in_u in_v miss =
            let other : (x y : ℕ) → x < w.width → y < w.height → cell_of l (w.left + x) (w.top + y) ≢ cell_of l u v = λ x y column line e.
            let one = same_from_place (w.top + y) (w.left + x) v u l.stride (omega (arith, inside)) (omega arith) e in
            let hit = (covers_decides w.left w.top w.width w.height u v).1 (omega (arith, one), omega (arith, one), omega (arith, one), omega (arith, one)) in
            true≢false (sym hit ∙ miss) in
            elsewhere (cell_of l u v) other ∙ sym (pixel_at l u v in_u in_v)

  -- a window with its outside as before is its new cells, with the old size and stride
  same_layout : (n : Layout T) → SameOutside (stretch_window l w s) n → n ≡ layout n.cells w.width w.height l.stride
  same_layout n same = λ i. layout n.cells (same.width_stays i) (same.height_stays i) (same.stride_stays i)

  -- a window that keeps its outside and is put back leaves the parent's outside, the pixels beside the window among it
  pub handed_on_outside : (n : Layout T) → SameOutside (stretch_window l w s) n → IsInside l.width l.height w → SameOutside l (handed_on l s n.cells)
  handed_on_outside n same = outside_of n.cells (subst (SameOutside (stretch_window l w s)) (same_layout n same) same)

  -- and patches the parent's grid with its own
  pub handed_on_grid : (n : Layout T) → SameOutside (stretch_window l w s) n → l.width ≤ l.stride → IsInside l.width l.height w
      → grid_of (handed_on l s n.cells) ≡ patch (grid_of l) w.left w.top (grid_of n)
  handed_on_grid n same wide inside = grind (arith, grid_of_others)

-- ---- the two windows of the definitions

pub exact_fits : {T : Type 0} (l : Layout T) (w : Window) → Fits l → IsInside l.width l.height w → Fits (exact_window l w)
exact_fits l w fits inside = window_fits l w (exact_stretch l.stride w) (exact_has (length l.cells) l.stride l.width l.height w fits inside)

pub exact_grid : {T : Type 0} (l : Layout T) (w : Window) → Fits l → IsInside l.width l.height w → grid_of (exact_window l w) ≡ window_view (grid_of l) w
exact_grid l w fits inside = window_grid l w (exact_stretch l.stride w) (exact_has (length l.cells) l.stride l.width l.height w fits inside) inside

pub padded_fits : {T : Type 0} (l : Layout T) (w : Window) → l.width ≤ l.stride → Fits l → IsInside l.width l.height w → Fits (padded_window l w)
padded_fits l w wide fits inside = window_fits l w (padded_stretch (length l.cells) l.stride w) (padded_has (length l.cells) l.stride l.width l.height w wide fits inside)

pub padded_grid : {T : Type 0} (l : Layout T) (w : Window) → l.width ≤ l.stride → Fits l → IsInside l.width l.height w → grid_of (padded_window l w) ≡ window_view (grid_of l) w
padded_grid l w wide fits inside = window_grid l w (padded_stretch (length l.cells) l.stride w) (padded_has (length l.cells) l.stride l.width l.height w wide fits inside) inside

-- ---- windows with either stretch

-- a window that is inside has its exact cells
pub exact_within : (count stride width height : ℕ) (w : Window) → Reaches count width height stride → IsInside width height w → IsWithin count (exact_stretch stride w)
exact_within count stride width height w fits inside = (exact_has count stride width height w fits inside).within

module _ {T : Type 0} (l : Layout T) (narrow : l.width ≤ l.stride) (fits : Fits l) (w : Window) (inside : IsInside l.width l.height w) where
  -- it fits
  pub layout_fits : (padded : Bool) → Fits (window_layout padded l w)
  layout_fits true = padded_fits l w narrow fits inside
  layout_fits false = exact_fits l w fits inside

  -- and shows the view
  pub layout_shows : (padded : Bool) → grid_of (window_layout padded l w) ≡ window_view (grid_of l) w
  layout_shows true = padded_grid l w narrow fits inside
  layout_shows false = exact_grid l w fits inside

  pub fits_as : (padded : Bool) (m : Layout T) → m ≡ window_layout padded l w → Fits m
  fits_as padded m e = subst Fits (sym e) (layout_fits padded)

  pub shows_as : (padded : Bool) (m : Layout T) → m ≡ window_layout padded l w → grid_of m ≡ window_view (grid_of l) w
  shows_as padded m e = ap grid_of e ∙ layout_shows padded

-- the cells of a window's stretch, in its size, are the window
pub layout_is : {T : Type 0} (padded : Bool) (l : Layout T) (w : Window) → stretch_window l w (window_stretch padded (length l.cells) l.stride w) ≡ window_layout padded l w
layout_is true l w = refl
layout_is false l w = refl

-- a window that is inside has its cells, with either stretch
pub stretch_has : (padded : Bool) (count stride width height : ℕ) (w : Window) → width ≤ stride → Reaches count width height stride → IsInside width height w → HasWindow count stride w (window_stretch padded count stride w)
stretch_has true count stride width height w wide fits inside = padded_has count stride width height w wide fits inside
stretch_has false count stride width height w wide fits inside = exact_has count stride width height w fits inside
