-- Loops that write the places one after the other: how far they have come.
use Rattle.std.proofs.Common.{◌≡◌, ℕ, ◌+◌, ◌-◌, ◌<◌, ◌≤◌, ◌⊎◌, inl, true, false, Option, Some, refl, sym, ap, ◌∙◌, arith, ⊎_elim, if◌then◌else◌}
use Rattle.std.proofs.lemmas.Bool.{cond-true, cond-false, true≢false}
use Rattle.std.proofs.lemmas.Bool.Decides.{nat_tests}
use Rattle.image_model.specs.Layout.{Layout, pixel}
use Rattle.image_model.specs.Grid.{grid, grid_of, covers, patch, uniform}
use Rattle.image_model.proofs.Grids.{covers_decides, at_place, pixel_at, same_grids, is_patch}
use Rattle.image_model.proofs.Places.{outside_refl, outside_trans}
use Rattle.image_model.specs.Tables.{is_before, table, table_upto}
use Rattle.image_model.specs.Mapped.{mapped}
use Rattle.std.specs.Option.{option_map}

module _ {T : Type 0} (f : ℕ → ℕ → Option T) where
  -- no place is written yet
  pub table_none : (l : Layout T) → grid_of l ≡ table_upto f 0 0 (grid_of l)
  unfolding grid_of table_upto
  table_none l = sym (same_grids l.width l.height _ (pixel l) (λ u v column line. cond-false (is_before 0 0 u v) _ _ (grind (arith, nat_tests)) ∙ pixel_at l u v column line))

  -- all are
  pub table_all : (x y w h : ℕ) (l : Layout T) → l.height ≤ y → l.width ≡ w → l.height ≡ h → table_upto f x y (grid_of l) ≡ table w h f
  unfolding grid_of table_upto table
  table_all x y w h l high same_w same_h = grind (arith, same_grids, cond-true, at_place, nat_tests)

  -- two ends of the sweep give one grid if each place comes before both or neither, or has the old pixel
  pub same_upto : (x y m n : ℕ) (l : Layout T)
      → ((u v : ℕ) → u < l.width → v < l.height → (is_before x y u v ≡ is_before m n u v) ⊎ (f u v ≡ (grid_of l).pixel u v))
      → table_upto f x y (grid_of l) ≡ table_upto f m n (grid_of l)
  unfolding grid_of table_upto
  same_upto x y m n l each = grind (arith, same_grids)

  -- a row is at its end where the next one begins
  pub table_row_ends : (x y : ℕ) (l : Layout T) → l.width ≤ x → table_upto f x y (grid_of l) ≡ table_upto f 0 (y + 1) (grid_of l)
  table_row_ends x y l wide = same_upto x y 0 (y + 1) l (λ u v column line. inl (grind (arith, nat_tests)))

  -- what a place has meanwhile
  pub upto_at : (x y : ℕ) (l k : Layout T) → grid_of k ≡ table_upto f x y (grid_of l) → (u v : ℕ) → u < l.width → v < l.height
      → (grid_of k).pixel u v ≡ (if is_before x y u v then f u v else (grid_of l).pixel u v)
  unfolding grid_of table_upto
  upto_at x y l k e u v column line =
      ap (λ g. g.pixel u v) e ∙ at_place l.width l.height (λ m n. if is_before x y m n then f m n else (grid_of l).pixel m n) u v column line

  -- an earlier place shows what was written there
  pub read_before : (x y : ℕ) (l k : Layout T) → grid_of k ≡ table_upto f x y (grid_of l) → (u v : ℕ) → u < l.width → v < l.height → (v < y) ⊎ ((v ≡ y) × (u < x)) → (grid_of k).pixel u v ≡ f u v
  read_before x y l k e u v column line before = upto_at x y l k e u v column line ∙ cond-true (is_before x y u v) _ _ (⊎_elim (λ b. grind (arith, nat_tests, b)) (λ b. grind (arith, nat_tests, b)) before)

  -- an image that has these pixels shows this grid
  pub upto_from_places : (x y : ℕ) (l n : Layout T) → n.width ≡ l.width → n.height ≡ l.height
      → ((u v : ℕ) → u < l.width → v < l.height → (grid_of n).pixel u v ≡ (if is_before x y u v then f u v else (grid_of l).pixel u v))
      → grid_of n ≡ table_upto f x y (grid_of l)
  unfolding grid_of table_upto
  upto_from_places x y l n wide high each = ap (λ w. grid w n.height (pixel n)) wide ∙ ap (λ h. grid l.width h (pixel n)) high
      ∙ same_grids l.width l.height (pixel n) _ (λ u v column line. sym (pixel_at n u v (omega (arith, wide)) (omega (arith, high))) ∙ each u v column line)

  module _ (x y : ℕ) (l k : Layout T) (e : grid_of k ≡ table_upto f x y (grid_of l)) (wide : k.width ≡ l.width) (high : k.height ≡ l.height) (column : x < l.width) (line : y < l.height) where
    -- the next place has the old pixel
    pub table_next : pixel k x y ≡ (grid_of l).pixel x y
    table_next =
        sym (pixel_at k x y (omega (arith, wide, column)) (omega (arith, high, line)))
        ∙ upto_at x y l k e x y column line
        ∙ cond-false (is_before x y x y) _ _ (grind (arith, nat_tests))

    -- a place that keeps its pixel needs no write
    pub table_skip : f x y ≡ (grid_of l).pixel x y → grid_of k ≡ table_upto f (x + 1) y (grid_of l)
    table_skip stays = e ∙ same_upto x y (x + 1) y l (λ u v in_u in_v. same u v)
      where
        same : (u v : ℕ) → (is_before x y u v ≡ is_before (x + 1) y u v) ⊎ (f u v ≡ (grid_of l).pixel u v)
        same u v = grind (arith, nat_tests, stays)

    -- one place more is written
    pub table_one : (value : T) → f x y ≡ Some value → patch (grid_of k) x y (uniform 1 1 value) ≡ table_upto f (x + 1) y (grid_of l)
    unfolding grid_of table_upto uniform
    table_one value there =
        sym (is_patch (grid_of k) x y (uniform 1 1 value) now inside outside) ∙ ap (λ w. grid w k.height now) wide ∙ ap (λ h. grid l.width h now) high
      where
        now : ℕ → ℕ → Option T
        now u v = if is_before (x + 1) y u v then f u v else (grid_of l).pixel u v

        inside : (u v : ℕ) → u < k.width → v < k.height → covers x y 1 1 u v ≡ true → now u v ≡ (uniform 1 1 value).pixel (u - x) (v - y)
        inside u v in_u in_v hit =
            let c = (covers_decides x y 1 1 u v).0 hit in
            let same_u : u ≡ x = omega (arith, c) in
            let same_v : v ≡ y = omega (arith, c) in
            ap (λ n. now n v) same_u ∙ ap (now x) same_v
            ∙ cond-true (is_before (x + 1) y x y) _ _ (grind (arith, nat_tests))
            ∙ there
            ∙ sym (at_place 1 1 (λ _ _. Some value) (u - x) (v - y) (omega (arith, c)) (omega (arith, c)))

        outside : (u v : ℕ) → u < k.width → v < k.height → covers x y 1 1 u v ≡ false → now u v ≡ (grid_of k).pixel u v
        outside u v in_u in_v miss =
            let other : (u ≡ x) → (v ≡ y) → ⊥ = λ same_u same_v.
            true≢false (sym ((covers_decides x y 1 1 u v).1 (omega (arith, same_u), omega (arith, same_v), omega (arith, same_u), omega (arith, same_v))) ∙ miss) in
            let alike : is_before (x + 1) y u v ≡ is_before x y u v = grind (arith, nat_tests, other) in
            ap (λ b. if b then f u v else (grid_of l).pixel u v) alike ∙ sym (upto_at x y l k e u v (omega (arith, wide, in_u)) (omega (arith, high, in_v)))

-- ---- a loop that changes each pixel by a function

-- the pixels of a grid make the grid again
pub table_again : {T : Type 0} (w h : ℕ) (f : ℕ → ℕ → Option T) → table w h (grid w h f).pixel ≡ grid w h f
unfolding table
table_again w h f = same_grids w h _ f (λ u v column line. at_place w h f u v column line)

module _ {T : Type 0} (f : T → T) where
  -- a pixel that was there is changed afterwards
  pub mapped_at : (l : Layout T) (x y : ℕ) (p : T) → x < l.width → y < l.height → (grid_of l).pixel x y ≡ Some p → (mapped f (grid_of l)).pixel x y ≡ Some (f p)
  unfolding grid_of mapped
  mapped_at l x y p column line there = at_place l.width l.height (λ u v. option_map f ((grid_of l).pixel u v)) x y column line ∙ ap (option_map f) there

  -- one pixel more is changed
  pub map_one : (x y : ℕ) (l k : Layout T) → grid_of k ≡ table_upto (mapped f (grid_of l)).pixel x y (grid_of l) → k.width ≡ l.width → k.height ≡ l.height → x < l.width → y < l.height
      → (p q : T) → pixel k x y ≡ Some p → q ≡ f p → patch (grid_of k) x y (uniform 1 1 q) ≡ table_upto (mapped f (grid_of l)).pixel (x + 1) y (grid_of l)
  map_one x y l k e wide high column line p q there is =
      let old = sym (table_next (mapped f (grid_of l)).pixel x y l k e wide high column line) ∙ there in
      table_one (mapped f (grid_of l)).pixel x y l k e wide high column line q (mapped_at l x y p column line old ∙ ap Some (sym is))

  -- all are
  pub map_all : (x y : ℕ) (l : Layout T) → l.height ≤ y → table_upto (mapped f (grid_of l)).pixel x y (grid_of l) ≡ mapped f (grid_of l)
  unfolding grid_of mapped
  map_all x y l high = table_all (mapped f (grid_of l)).pixel x y l.width l.height l high refl refl ∙ table_again l.width l.height (λ u v. option_map f ((grid_of l).pixel u v))

-- what a proof of such a loop goes by
pub ruleset map_sweeps = (outside_refl, outside_trans, table_none, table_row_ends, map_one, map_all)

-- and that of a loop that writes the pixels of a function of the place
pub ruleset sweeps = (outside_refl, outside_trans, pixel_at, table_none, table_one, table_next, table_skip, table_row_ends, table_all)
