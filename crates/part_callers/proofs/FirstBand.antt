-- The first band of an image, filled: what a step of `BandsMut` and what it leaves make of the whole.
use Rattle.std.proofs.Common.{◌≡◌, ℕ, zero, suc, false, ◌+◌, ◌-◌, ◌*◌, ◌<◌, ◌≤◌, List, [], ◌∷◌, ◌++◌, length, take, drop, map, min, Some, refl, sym, ap, subst, ◌∙◌, arith, ◌==◌}
use Rattle.std.specs.Borrow.{MutBor}
use Rattle.std.specs.Iterator.{YieldsFirstBy}
use Rattle.std.specs.List.{range_with_len}
use Rattle.std.proofs.lemmas.Bool.{cond-false, cond_both}
use Rattle.std.proofs.lemmas.Bool.Decides.{nat_tests}
use Rattle.std.proofs.Math.Seq.{drop-append_seam}
use Rattle.image_model.specs.Layout.{Layout, Fits, SameOutside}
use Rattle.image_model.specs.Grid.{grid_of, patch, uniform}
use Rattle.image_model.specs.Tiles.{tile_count}
use Rattle.image_model.specs.Windows.{Window, Stretch, IsInside, is_empty, exact_stretch, exact_window, with_stretch}
use Rattle.image_model.proofs.Grids.{same_grids}
use Rattle.image_model.proofs.Places.{outside_refl}
use Rattle.image_model.proofs.Stretches.{length-stretch_cells}
use Rattle.image_model.proofs.Tiles.{tile_counted}
use Rattle.image_model.proofs.Windows.{HasWindow, window_fits, exact_has, stretch_window, handed_on_grid, handed_on_outside}
use Rattle.imgref.specs.declared.img.Img.{Img}
use Rattle.imgref.specs.Image.{buf_of, width_of, height_of, layout_by, mut_layout, with_all}
use Rattle.image_tiles.specs.declared.bands.BandSpacing.{BandSpacing}
use Rattle.image_tiles.specs.declared.bands.BandsMut.{BandsMut}
use Rattle.image_tiles.specs.Bands.{bands, band_count, band_window, bands_left, cells_left, spacing_left, band_spacing, put_back, Moves}
use Rattle.imgref_examples.proofs.Replaced.{new_layout}
use Rattle.part_callers.specs.Bands.{HasFirstBand}

-- the first item, or this one
abbrev head_or : {X : Type 0} → X → List X → X
head_or o [] = o
head_or o (x ∷ xs) = x

-- the first of a table, and a table of none
first_of : {X : Type 0} (f : ℕ → X) (n : ℕ) (x : X) (xs : List X) → map f (range_with_len 0 n) ≡ x ∷ xs → x ≡ f 0
first_of f zero x xs is = absurd (omega (arith, ap length is))
first_of f (suc n) x xs is = sym (ap (head_or x) is)

none_of : {X : Type 0} (f : ℕ → X) (n : ℕ) → map f (range_with_len 0 n) ≡ [] → n ≡ 0
none_of f zero is = refl
none_of f (suc n) is = absurd (omega (arith, ap length is))

module _ {T : Type 0} (l : Layout T) (bh : ℕ) (value : T) (high : 0 < bh) (narrow : l.width ≤ l.stride) (fits : Fits l) where
  abbrev table : ℕ → Layout T
  table j = exact_window l (band_window l.width l.height bh j)

  abbrev w : Window
  w = band_window l.width l.height bh 0

  abbrev s : Stretch
  s = exact_stretch l.stride w

  top : 0 * bh ≡ 0
  top = omega arith

  inside : IsInside l.width l.height w
  inside = (omega arith, omega arith)

  has : HasWindow (length l.cells) l.stride w s
  has = exact_has (length l.cells) l.stride l.width l.height w fits inside

  -- the first band begins with the image
  begins : s.start ≡ 0
  begins = cond_both (is_empty w) 0 (l.stride * (0 * bh) + 0) (λ n. n ≡ 0) (λ _. refl) (λ _. let none : l.stride * 0 + 0 ≡ 0 = omega arith in ap (λ n. l.stride * n + 0) top ∙ none)

  -- without a band there is no place
  no_place : bands l bh ≡ [] → (x y : ℕ) → x < l.width → y < l.height → ⊥
  no_place is x y column line =
      let none : band_count l.width l.height bh ≡ 0 = none_of table (band_count l.width l.height bh) is in
      let some : (l.width == 0) ≡ false = let wide : 0 < l.width = omega (arith, column) in grind (arith, nat_tests) in
      let count : band_count l.width l.height bh ≡ tile_count bh l.height = cond-false (l.width == 0) 0 (tile_count bh l.height) some in
      omega (arith, none, count, tile_counted bh l.height 0 high (omega (arith, top, line)))

  same_grid : bands l bh ≡ [] → grid_of l ≡ patch (grid_of l) 0 0 (uniform l.width (min bh l.height) value)
  unfolding grid_of patch
  same_grid is = same_grids l.width l.height _ _ (λ x y column line. absurd (no_place is x y column line))

  pub no_band : bands l bh ≡ [] → HasFirstBand l bh value l
  no_band is = record { grid = same_grid is; outside = outside_refl l }

  module _ (r t : BandsMut T) (cells : cells_left r ≡ l.cells) (spacing : spacing_left r ≡ band_spacing l.width l.height l.stride bh) (all : bands_left r ≡ bands l bh)
      (band : Img (MutBor (List T))) (steps : YieldsFirstBy mut_layout bands_left r (Some band) t) (moved : Moves r (Some band) t) where
    is_band : mut_layout band ≡ table 0
    is_band = first_of table (band_count l.width l.height bh) (mut_layout band) (bands_left t) (sym all ∙ steps)

    pub first_fits : Fits (mut_layout band)
    first_fits = subst (λ (v : Layout T). Fits v) (sym is_band) (window_fits l w s has)

    module _ (ws : List T) (stays : SameOutside (mut_layout band) (record (mut_layout band) { cells = ws })) (filled : grid_of (record (mut_layout band) { cells = ws }) ≡ uniform (width_of band) (height_of band) value) where
      abbrev left : Layout T
      left = record (mut_layout band) { cells = ws }

      same : SameOutside (stretch_window l w s) left
      same = subst (λ (v : Layout T). SameOutside v left) is_band stays

      no_skip : r.spacing.rows.skip ≡ 0
      no_skip = ap (λ (p : BandSpacing). p.rows.skip) spacing

      -- the band's cells, and after them the others
      parts : l.cells ≡ (buf_of band).now ++ cells_left t
      parts = sym cells ∙ moved.0 ∙ ap (λ n. (take n (cells_left r) ++ (buf_of band).now) ++ cells_left t) no_skip

      long : length (buf_of band).now ≡ s.start + s.len
      long = let from_start : s.len ≡ s.start + s.len = omega (arith, begins) in ap (λ (k : Layout T). length k.cells) is_band ∙ length-stretch_cells l.cells s has.within ∙ from_start

      back : cells_left t ≡ drop (s.start + s.len) l.cells
      back = sym (drop-append_seam (buf_of band).now (cells_left t)) ∙ ap (λ n. drop n ((buf_of band).now ++ cells_left t)) long ∙ ap (drop (s.start + s.len)) (sym parts)

      put : put_back r ws (cells_left t) ≡ with_stretch l.cells s ws
      put = ap (λ n. (take n (cells_left r) ++ ws) ++ cells_left t) no_skip ∙ (λ i. take (sym begins i) l.cells ++ (ws ++ back i))

      abbrev new : List T → Layout T
      new ys = record l { cells = ys }

      tall : height_of band ≡ min bh l.height
      tall = let same_rows : min bh (l.height - 0 * bh) ≡ min bh l.height = omega arith in ap (λ (k : Layout T). k.height) is_band ∙ same_rows

      pub first_band : HasFirstBand l bh value (new (put_back r ws (cells_left t)))
      first_band = record {
        grid = ap (λ ys. grid_of (new ys)) put ∙ handed_on_grid l w s has left same narrow inside ∙ ap (λ n. patch (grid_of l) 0 n (grid_of left)) top
            ∙ ap (patch (grid_of l) 0 0) (filled ∙ (λ i. uniform ((is_band i).width) (tall i) value));
        outside = subst (λ ys. SameOutside l (new ys)) (sym put) (handed_on_outside l w s has left same inside);
      }

-- an image with these cells
module _ {C T : Type 0} (cells : C → List T) (with_cells : C → Stretch → List T → C)
    (others_stay : (c : C) (s : Stretch) (ws : List T) → s.start + s.len ≤ length (cells c) → length ws ≡ s.len → cells (with_cells c s ws) ≡ with_stretch (cells c) s ws)
    (i : Img C) (bh : ℕ) (value : T) (zs : List T) (has : HasFirstBand (layout_by cells i) bh value (record (layout_by cells i) { cells = zs })) where
  pub in_image : HasFirstBand (layout_by cells i) bh value (layout_by cells (with_all cells with_cells i zs))
  in_image = subst (HasFirstBand (layout_by cells i) bh value) (sym (new_layout cells with_cells others_stay i (with_all cells with_cells i zs) zs refl has.outside.length_stays)) has
