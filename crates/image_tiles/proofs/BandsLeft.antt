-- The bands of a list of cells, taken off at the front.
use Rattle.std.proofs.Common.{◌≡◌, ℕ, zero, suc, ◌+◌, ◌-◌, ◌*◌, ◌/◌, ◌<◌, ◌≤◌, inl, inr, List, [], ◌∷◌, All, get_or, take, drop, length, min, refl, sym, ap, subst, ◌∙◌, arith, suc-mul, ◌==◌}
use Rattle.std.specs.List.{range_with_len}
use Rattle.std.proofs.Math.Nat.{mul-add, mul-suc}
use Rattle.std.proofs.lemmas.Bool.{cond-false, cases_lt}
use Rattle.std.proofs.lemmas.Bool.Decides.{nat_tests}
use Rattle.std.proofs.lemmas.List.{drop-drop}
use Rattle.std.proofs.lemmas.Nat.{div-add-mod', mod_below, div-mul-add}
use Rattle.std.proofs.lemmas.List.FromFn.{length-map-range_with_len, length-range_with_len, get_or-range_with_len}
use Rattle.std.proofs.lemmas.List.Elements.{All-map}
use Rattle.image_model.proofs.Windows.{exact_fits}
use Rattle.image_model.specs.Layout.{Layout, Fits, layout}
use Rattle.image_model.specs.Tiles.{tile_count}
use Rattle.image_model.specs.Windows.{window, exact_window}
use Rattle.image_model.proofs.Tables.{map_along}
use Rattle.image_model.proofs.Tiles.{tile_begins}
use Rattle.image_tiles.specs.declared.bands.BandsMut.{BandsMut}
use Rattle.image_tiles.specs.Bands.{band_count, band_window, bands, bands_left}

-- one tile more, where as many places come before the others
count_more : (tile n : ℕ) → 0 < tile → tile_count tile (n + tile) ≡ suc (tile_count tile n)
count_more tile n some = grind (arith, div-add-mod', mod_below, suc-mul, div-mul-add)

-- no place, no tile
count_none : (tile : ℕ) → 0 < tile → tile_count tile 0 ≡ 0
count_none tile some = let e : 0 + (tile - 1) ≡ 0 * tile + (tile - 1) = omega arith in ap (λ k. k / tile) e ∙ div-mul-add 0 tile (tile - 1) (omega arith)

-- one tile, where no more places are there than it has
pub count_one : (tile n : ℕ) → 0 < tile → 0 < n → n ≤ tile → tile_count tile n ≡ 1
count_one tile n some high low = let e : n + (tile - 1) ≡ 1 * tile + (n - 1) = omega arith in ap (λ k. k / tile) e ∙ div-mul-add 1 tile (n - 1) (omega arith)

-- a window with a place has its exact cells
with_place : {T : Type 0} (xs : List T) (w n s top h : ℕ) → 0 < w → 0 < h → exact_window (layout xs w n s) (window 0 top w h) ≡ layout (take (s * (h - 1) + w) (drop (s * top) xs)) w h s
with_place xs w n s top h wide high = grind (arith, cond-false, nat_tests)

module _ {T : Type 0} (xs : List T) (w n s bh : ℕ) (wide : 0 < w) (some : 0 < n) (high : 0 < bh) (narrow : w ≤ s) where
  abbrev k : ℕ
  k = min bh n

  abbrev len : ℕ
  len = s * (k - 1) + w

  abbrev rest : List T
  rest = drop (s - w) (drop len xs)

  abbrev band : ℕ → Layout T
  band j = exact_window (layout xs w n s) (band_window w n bh j)

  abbrev later : ℕ → Layout T
  later j = exact_window (layout rest w (n - k) s) (band_window w (n - k) bh j)

  abbrev left : ℕ
  left = tile_count bh (n - k)

  counted : tile_count bh n ≡ suc left
  counted = grind (arith, count_more, count_one, count_none)

  first : band 0 ≡ layout (take len xs) w k s
  first = grind (arith, with_place)

  further : (j : ℕ) → j < left → band (1 + j) ≡ later (0 + j)
  further j below =
      let begins : j * bh < n - k = tile_begins bh (n - k) j high below in
      let full : k ≡ bh = omega (arith, begins) in
      let up : (1 + j) * bh ≡ bh + j * bh = (let e : 1 + j ≡ suc j = omega arith in ap (λ i. i * bh) e) ∙ suc-mul j bh ∙ (let e : j * bh + bh ≡ bh + j * bh = omega arith in e) in
      let z : 0 + j ≡ j = omega arith in
      let h : min bh (n - (1 + j) * bh) ≡ min bh (n - k - (0 + j) * bh) = ap (min bh) (omega (arith, up, full, ap (λ i. i * bh) z)) in
      let m : ℕ = min bh (n - k - (0 + j) * bh) in
      let tall : 0 < m = omega (arith, begins, high, ap (λ i. i * bh) z) in
      let on : len + (s - w) ≡ s * bh = omega (arith, narrow, mul_step, ap (λ i. s * i) full) in
      let at : s * ((1 + j) * bh) ≡ s * bh + s * ((0 + j) * bh) = omega (arith, ap (λ t. s * t) up, mul-add-left s bh (j * bh), ap (λ i. s * (i * bh)) z) in
      ap (λ i. exact_window (layout xs w n s) (window 0 ((1 + j) * bh) w i)) h
      ∙ with_place xs w n s ((1 + j) * bh) m wide tall
      ∙ ap (λ i. layout (take (s * (m - 1) + w) (drop i xs)) w m s) at
      ∙ ap (λ ys. layout (take (s * (m - 1) + w) ys) w m s) (sym (drop-drop (s * ((0 + j) * bh)) (s * bh) xs) ∙ ap (λ i. drop (s * ((0 + j) * bh)) (drop i xs)) (sym on) ∙ ap (drop (s * ((0 + j) * bh))) (sym (drop-drop (s - w) len xs)))
      ∙ sym (with_place rest w (n - k) s ((0 + j) * bh) m wide tall)
    where
      mul-add-left : (a b c : ℕ) → a * (b + c) ≡ a * b + a * c
      mul-add-left a b c = mul-add a b c

      mul_step : s * (k - 1) + s ≡ s * k
      mul_step = let e : k ≡ suc (k - 1) = omega (arith, some, high) in sym (mul-suc s (k - 1)) ∙ ap (λ i. s * i) (sym e)

  -- the first band comes off, and the padding after it is skipped next
  pub first_off : bands (layout xs w n s) bh ≡ layout (take len xs) w k s ∷ bands (layout rest w (n - k) s) bh
  first_off = grind (arith, counted, first, map_along, further, cond-false, nat_tests)

band_count_none : (v bh : ℕ) → 0 < bh → band_count v 0 bh ≡ 0
band_count_none zero bh high = refl
band_count_none (suc v) bh high = cond-false (suc v == 0) 0 (tile_count bh 0) (grind (arith, nat_tests)) ∙ count_none bh high

-- with no row there is no band
pub no_bands : {T : Type 0} (xs : List T) (w n s bh : ℕ) → 0 < bh → n ≡ 0 → bands (layout xs w n s) bh ≡ []
no_bands xs w n s bh high none = grind (arith, band_count_none)

-- as many bands as tiles along the height, if there is a column
pub length-bands : {T : Type 0} (xs : List T) (w n s bh : ℕ) → (0 < n → 0 < w) → 0 < bh → length (bands (layout xs w n s) bh) ≡ tile_count bh n
length-bands xs w n s bh some high =
    length-map-range_with_len (λ j. exact_window (layout xs w n s) (band_window w n bh j)) 0 (band_count w n bh)
    ∙ elim (cases_lt 0 n) [
      | inl more ↦ let wide : 0 < w = some more in cond-false (w == 0) 0 (tile_count bh n) (grind (arith, nat_tests))
      | inr none ↦ let e : n ≡ 0 = omega (arith, none) in ap (λ m. band_count w m bh) e ∙ band_count_none w bh high ∙ sym (count_none bh high) ∙ ap (tile_count bh) (sym e)
    ]

-- each band of a fitting layout fits
pub bands_fit : {T : Type 0} (l : Layout T) (bh : ℕ) → Fits l → 0 < bh → All Fits (bands l bh)
bands_fit l bh fits high =
    All-map Fits (λ j. exact_window l (band_window l.width l.height bh j)) (range_with_len 0 (band_count l.width l.height bh)) (λ j d below.
    let n : ℕ = band_count l.width l.height bh in
    let inn : j < n = omega (arith, below, length-range_with_len 0 n) in
    let at : get_or (range_with_len 0 n) j d ≡ j = omega (arith, get_or-range_with_len 0 n j d inn) in
    subst (λ i. Fits (exact_window l (band_window l.width l.height bh i))) (sym at) (one j inn))
  where
    one : (j : ℕ) → j < band_count l.width l.height bh → Fits (exact_window l (band_window l.width l.height bh j))
    one j inn = elim (cases_lt 0 l.width) [
      | inl wide ↦
          let count : band_count l.width l.height bh ≡ tile_count bh l.height = cond-false (l.width == 0) 0 (tile_count bh l.height) (grind (arith, nat_tests)) in
          let begins : j * bh < l.height = tile_begins bh l.height j high (omega (arith, inn, count)) in
          exact_fits l (band_window l.width l.height bh j) fits (omega arith, omega (arith, begins))
      | inr none ↦
          let e : l.width ≡ 0 = omega (arith, none) in
          absurd (omega (arith, inn, ap (λ w. band_count w l.height bh) e))
    ]

-- an iterator gives as many bands as there are tiles along its rows
pub counted_left : {T : Type 0} (s : BandsMut T) → length (bands_left s) ≡ tile_count s.spacing.band_height s.spacing.rows.count
unfolding bands_left
counted_left s = let p = s.spacing.rows in length-bands (drop p.skip s.cells.now) p.width p.count p.stride s.spacing.band_height s.some s.high
