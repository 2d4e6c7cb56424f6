-- When grids are one, what their places have, and what a write does to them.
use Rattle.std.proofs.Common.{◌≡◌, ◌≢◌, ℕ, ◌+◌, ◌-◌, ◌<◌, ◌≤◌, Bool, true, false, cond, None, Option, refl, sym, ap, ◌∙◌, arith, ⊎_elim, if◌then◌else◌, rules}
use Rattle.std.specs.Bool.{Decides}
use Rattle.std.proofs.lemmas.Nat.{same_from_place}
use Rattle.std.proofs.lemmas.Bool.{cond-true, cond-false, cases_Bool, true≢false, false_from_ne_true}
use Rattle.image_model.specs.Layout.{Layout, Fits, cell_of, pixel}
use Rattle.image_model.specs.Grid.{Grid, is_place, grid, grid_of, view, covers, patch, uniform}
use Rattle.image_model.proofs.Cells.{slice_get-set_same, slice_get-set_other}
use Rattle.image_model.proofs.Places.{written}

-- ---- places

-- the test of a place tells which numbers are one
pub is_place_decides : (w h x y : ℕ) → Decides (is_place w h x y) ((x < w) × (y < h))
is_place_decides w h x y = grind arith

-- the test of a rectangle tells which numbers lie in it
pub covers_decides : (left top w h x y : ℕ) → Decides (covers left top w h x y) ((left ≤ x) × (top ≤ y) × (x < left + w) × (y < top + h))
covers_decides left top w h x y = grind arith

-- what a grid has at a place
pub at_place : {T : Type 0} (w h : ℕ) (f : ℕ → ℕ → Option T) (x y : ℕ) → x < w → y < h → (grid w h f).pixel x y ≡ f x y
at_place w h f x y column line = cond-true (is_place w h x y) (f x y) None ((is_place_decides w h x y).1 (column, line))

-- what a layout's grid has at a place
pub pixel_at : {T : Type 0} (l : Layout T) (x y : ℕ) → x < l.width → y < l.height → (grid_of l).pixel x y ≡ pixel l x y
unfolding grid_of
pixel_at l x y column line = at_place l.width l.height (pixel l) x y column line

-- ---- grids that are one

under : {A : Type 0} (b : Bool) (u v n : A) → (b ≡ true → u ≡ v) → cond b u n ≡ cond b v n
under true u v n e = e refl
under false u v n e = refl

-- grids that have one size and one pixel at each place are one
pub same_grids : {T : Type 0} (w h : ℕ) (f g : ℕ → ℕ → Option T) → ((x y : ℕ) → x < w → y < h → f x y ≡ g x y) → grid w h f ≡ grid w h g
same_grids w h f g each = grind arith

-- layouts of one size with one pixel at each place have one grid
pub same_grids_of : {T : Type 0} (k l : Layout T) → k.width ≡ l.width → k.height ≡ l.height
    → ((x y : ℕ) → x < l.width → y < l.height → pixel k x y ≡ pixel l x y) → grid_of k ≡ grid_of l
unfolding grid_of
same_grids_of k l wide high each = grind arith

-- a grid that has one grid's pixels in a rectangle, and another's elsewhere, is the patch
pub is_patch : {T : Type 0} (g : Grid T) (left top : ℕ) (p : Grid T) (f : ℕ → ℕ → Option T)
    → ((x y : ℕ) → x < g.width → y < g.height → covers left top p.width p.height x y ≡ true → f x y ≡ p.pixel (x - left) (y - top))
    → ((x y : ℕ) → x < g.width → y < g.height → covers left top p.width p.height x y ≡ false → f x y ≡ g.pixel x y)
    → grid g.width g.height f ≡ patch g left top p
unfolding patch
is_patch g left top p f inside outside = grind arith

module _ {T : Type 0} (g : Grid T) (left top width height x y : ℕ) (p : Grid T) where
  -- whether the patch has a place of the grid, seen in the view and in the grid
  abbrev within : ℕ → ℕ → Bool
  within u v = covers x y p.width p.height (u - left) (v - top)

  abbrev summed : ℕ → ℕ → Bool
  summed u v = covers (left + x) (top + y) p.width p.height u v

  -- the patched view, and the grid with it
  abbrev inner : ℕ → ℕ → Option T
  inner u v = if covers x y p.width p.height u v then p.pixel (u - x) (v - y) else (view g left top width height).pixel u v

  abbrev outer : ℕ → ℕ → Option T
  outer u v = if covers left top width height u v then (grid width height inner).pixel (u - left) (v - top) else g.pixel u v

  in_view : (u v : ℕ) → covers left top width height u v ≡ true → outer u v ≡ inner (u - left) (v - top)
  in_view u v hit = search rules

  beside : (u v : ℕ) → covers left top width height u v ≡ true → summed u v ≡ false → outer u v ≡ g.pixel u v
  unfolding grid_of view patch uniform
  beside u v hit miss =
      let c = (covers_decides left top width height u v).0 hit in
      let back_u : left + (u - left) ≡ u = omega (arith, c) in
      let back_v : top + (v - top) ≡ v = omega (arith, c) in
      let found : within u v ≡ true → summed u v ≡ true = λ e.
      let d = (covers_decides x y p.width p.height (u - left) (v - top)).0 e in
      (covers_decides (left + x) (top + y) p.width p.height u v).1 (omega (arith, c, d), omega (arith, c, d), omega (arith, c, d), omega (arith, c, d)) in
      in_view u v hit
      ∙ cond-false (within u v) _ _ (false_from_ne_true (within u v) (λ e. true≢false (sym (found e) ∙ miss)))
      ∙ at_place width height (λ m n. g.pixel (left + m) (top + n)) (u - left) (v - top) (omega (arith, c)) (omega (arith, c))
      ∙ ap (λ n. g.pixel n (top + (v - top))) back_u
      ∙ ap (λ n. g.pixel u n) back_v

  -- a patch of a view, put where the view was seen, is a patch at the sum of the corners
  pub patch_of_view : x + p.width ≤ width → y + p.height ≤ height → patch g left top (patch (view g left top width height) x y p) ≡ patch g (left + x) (top + y) p
  unfolding patch view
  patch_of_view wide high = is_patch g (left + x) (top + y) p outer inside outside
    where
      inside : (u v : ℕ) → u < g.width → v < g.height → summed u v ≡ true → outer u v ≡ p.pixel (u - (left + x)) (v - (top + y))
      inside u v in_u in_v hit =
          let c = (covers_decides (left + x) (top + y) p.width p.height u v).0 hit in
          let same_u : u - left - x ≡ u - (left + x) = omega (arith, c) in
          let same_v : v - top - y ≡ v - (top + y) = omega (arith, c) in
          in_view u v ((covers_decides left top width height u v).1 (omega (arith, c), omega (arith, c), omega (arith, c), omega (arith, c)))
          ∙ cond-true (within u v) _ _ ((covers_decides x y p.width p.height (u - left) (v - top)).1 (omega (arith, c), omega (arith, c), omega (arith, c), omega (arith, c)))
          ∙ ap (λ n. p.pixel n (v - top - y)) same_u
          ∙ ap (λ n. p.pixel (u - (left + x)) n) same_v

      outside : (u v : ℕ) → u < g.width → v < g.height → summed u v ≡ false → outer u v ≡ g.pixel u v
      outside u v in_u in_v miss =
          ⊎_elim (λ hit. beside u v hit miss) (λ past. cond-false (covers left top width height u v) _ _ past) (cases_Bool (covers left top width height u v))

-- ---- a write at a place

-- a write at a place patches the grid with one pixel
pub written_grid : {T : Type 0} (l : Layout T) (x y : ℕ) (value : T) → Fits l → l.width ≤ l.stride → x < l.width → y < l.height
    → grid_of (written l x y value) ≡ patch (grid_of l) x y (uniform 1 1 value)
unfolding grid_of patch uniform
written_grid l x y value fits wide column line = is_patch (grid_of l) x y (uniform 1 1 value) (pixel (written l x y value)) inside outside
  where
    inside : (u v : ℕ) → u < l.width → v < l.height → covers x y 1 1 u v ≡ true → pixel (written l x y value) u v ≡ (uniform 1 1 value).pixel (u - x) (v - y)
    inside u v in_u in_v hit = grind (arith, slice_get-set_same, covers_decides)

    outside : (u v : ℕ) → u < l.width → v < l.height → covers x y 1 1 u v ≡ false → pixel (written l x y value) u v ≡ (grid_of l).pixel u v
    outside u v in_u in_v miss =
        let other : cell_of l u v ≢ cell_of l x y = λ e.
        let one = same_from_place v u y x l.stride (omega arith) (omega arith) e in
        let hit = (covers_decides x y 1 1 u v).1 (omega (arith, one), omega (arith, one), omega (arith, one), omega (arith, one)) in
        true≢false (sym hit ∙ miss) in
        slice_get-set_other l.cells (cell_of l x y) (cell_of l u v) value other ∙ sym (pixel_at l u v in_u in_v)
