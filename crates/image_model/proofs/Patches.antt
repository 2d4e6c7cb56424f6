-- What a patch shows: at a place, past the grid's edge, and where the edge cuts it.
use Rattle.std.proofs.Common.{◌≡◌, ℕ, ◌+◌, ◌-◌, ◌<◌, ◌≤◌, ◌⊎◌, true, false, List, length, Option, Some, min, sym, ap, ◌∙◌, arith, ⊎_elim, if◌then◌else◌}
use Rattle.std.specs.List.{slice_get}
use Rattle.std.proofs.lemmas.Bool.{cond-true, cond-false, cases_Bool, true≢false, false_from_ne_true}
use Rattle.image_model.specs.Grid.{Grid, is_place, grid_of, covers, view, patch, uniform, one_row}
use Rattle.image_model.specs.Layout.{Layout, pixel}
use Rattle.image_model.specs.Rows.{row}
use Rattle.image_model.proofs.Grids.{covers_decides, at_place, pixel_at, is_patch, patch_of_view}
use Rattle.image_model.proofs.Rows.{row_pixel}

-- ---- at a place

-- a place of the rectangle has the patch's pixel
pub in_patch : {T : Type 0} (l : Layout T) (x y : ℕ) (p : Grid T) (u v : ℕ) → u < l.width → v < l.height → x ≤ u → y ≤ v → u < x + p.width → v < y + p.height
    → (patch (grid_of l) x y p).pixel u v ≡ p.pixel (u - x) (v - y)
unfolding grid_of patch
in_patch l x y p u v column line left top right bottom = grind (arith, cond-true)

-- any other place has the pixel that was there
pub beside_patch : {T : Type 0} (l : Layout T) (x y : ℕ) (p : Grid T) (u v : ℕ) → (u < x) ⊎ ((v < y) ⊎ ((x + p.width ≤ u) ⊎ (y + p.height ≤ v)))
    → (patch (grid_of l) x y p).pixel u v ≡ (grid_of l).pixel u v
unfolding grid_of patch
beside_patch l x y p u v beside =
    ⊎_elim
    (λ there.
    cond-true (is_place l.width l.height u v) _ _ there
    ∙ cond-false (covers x y p.width p.height u v) _ _ (false_from_ne_true (covers x y p.width p.height u v) (λ hit.
    let c = (covers_decides x y p.width p.height u v).0 hit in
    absurd (grind (arith, c, beside)))))
    (λ outside. cond-false (is_place l.width l.height u v) _ _ outside ∙ sym (cond-false (is_place l.width l.height u v) _ _ outside))
    (cases_Bool (is_place l.width l.height u v))

-- a place of a view has the pixel that lies a corner further
pub in_view : {T : Type 0} (g : Grid T) (left top width height u v : ℕ) → u < width → v < height → (view g left top width height).pixel u v ≡ g.pixel (left + u) (top + v)
unfolding view
in_view g left top width height u v column line = at_place width height (λ m n. g.pixel (left + m) (top + n)) u v column line

-- a place of a rectangle of one value has it
pub in_uniform : {T : Type 0} (width height : ℕ) (value : T) (u v : ℕ) → u < width → v < height → (uniform width height value).pixel u v ≡ Some value
unfolding uniform
in_uniform width height value u v column line = at_place width height (λ _ _. Some value) u v column line

-- a place of the grid of one row has the item of its column
pub in_one_row : {T : Type 0} (pixels : List T) (u v : ℕ) → u < length pixels → v < 1 → (one_row pixels).pixel u v ≡ slice_get pixels u
unfolding one_row
in_one_row pixels u v column line = at_place (length pixels) 1 (λ x _. slice_get pixels x) u v column line

-- an item of a row is the pixel of its column
pub in_row : {T : Type 0} (l : Layout T) (x y : ℕ) → x < l.width → y < l.height → slice_get (row l y) x ≡ (grid_of l).pixel x y
in_row l x y column line = row_pixel l x y column ∙ sym (pixel_at l x y column line)

-- a patch of one pixel has it
pub put_pixel : {T : Type 0} (l : Layout T) (x y : ℕ) (value : T) → x < l.width → y < l.height → (patch (grid_of l) x y (uniform 1 1 value)).pixel x y ≡ Some value
unfolding uniform
put_pixel l x y value column line = grind (arith, in_patch)

-- ---- at the edge

module _ {T : Type 0} (l : Layout T) (x y : ℕ) (p : Grid T) where
  -- the part of the patch that lies in the image
  abbrev columns : ℕ
  columns = min p.width (l.width - x)

  abbrev lines : ℕ
  lines = min p.height (l.height - y)

  -- what the image has once it is patched with that part
  abbrev cut : ℕ → ℕ → Option T
  cut u v = if covers x y columns lines u v then (view p 0 0 columns lines).pixel (u - x) (v - y) else (grid_of l).pixel u v

  -- a grid patches an image as the part of it does that lies in the image
  pub clipped_grid : patch (grid_of l) x y p ≡ patch (grid_of l) x y (view p 0 0 (min p.width (l.width - x)) (min p.height (l.height - y)))
  unfolding grid_of patch view
  clipped_grid = sym (is_patch (grid_of l) x y p cut inside outside)
    where
      inside : (u v : ℕ) → u < l.width → v < l.height → covers x y p.width p.height u v ≡ true → cut u v ≡ p.pixel (u - x) (v - y)
      inside u v in_u in_v hit =
          let c = (covers_decides x y p.width p.height u v).0 hit in
          let there = (covers_decides x y columns lines u v).1 (omega (arith, c), omega (arith, c), omega (arith, c), omega (arith, c)) in
          let e : 0 + (u - x) ≡ u - x = omega arith in
          let f : 0 + (v - y) ≡ v - y = omega arith in
          cond-true (covers x y columns lines u v) _ _ there
          ∙ at_place columns lines (λ m n. p.pixel (0 + m) (0 + n)) (u - x) (v - y) (omega (arith, c)) (omega (arith, c))
          ∙ ap (λ n. p.pixel n (0 + (v - y))) e
          ∙ ap (λ n. p.pixel (u - x) n) f

      outside : (u v : ℕ) → u < l.width → v < l.height → covers x y p.width p.height u v ≡ false → cut u v ≡ (grid_of l).pixel u v
      outside u v in_u in_v miss =
          cond-false (covers x y columns lines u v) _ _ (false_from_ne_true (covers x y columns lines u v) (λ e.
          let c = (covers_decides x y columns lines u v).0 e in
          true≢false (sym ((covers_decides x y p.width p.height u v).1 (omega (arith, c), omega (arith, c), omega (arith, c), omega (arith, c))) ∙ miss)))

-- another image's grid patches an image as the part of it does that lies in the image
pub clipped_image : {T : Type 0} (l : Layout T) (x y : ℕ) (k : Layout T) → patch (grid_of l) x y (grid_of k) ≡ patch (grid_of l) x y (view (grid_of k) 0 0 (min k.width (l.width - x)) (min k.height (l.height - y)))
unfolding grid_of
clipped_image l x y k = clipped_grid l x y (grid_of k)

-- a part of a rectangle of one value is one of that value
uniform_part : {T : Type 0} (width height columns lines : ℕ) (value : T) → columns ≤ width → lines ≤ height → view (uniform width height value) 0 0 columns lines ≡ uniform columns lines value
unfolding view uniform
uniform_part width height columns lines value across down = grind arith

-- a rectangle of one value, likewise
pub clipped : {T : Type 0} (l : Layout T) (x y width height : ℕ) (value : T)
    → patch (grid_of l) x y (uniform width height value) ≡ patch (grid_of l) x y (uniform (min width (l.width - x)) (min height (l.height - y)) value)
unfolding uniform
clipped l x y width height value = grind (arith, clipped_grid, uniform_part)

-- a patch past the right or the lower edge changes nothing
pub past_edge : {T : Type 0} (l : Layout T) (x y : ℕ) (p : Grid T) → (l.width ≤ x) ⊎ (l.height ≤ y) → patch (grid_of l) x y p ≡ grid_of l
unfolding grid_of
past_edge l x y p past = sym (is_patch (grid_of l) x y p (pixel l) inside outside)
  where
    inside : (u v : ℕ) → u < l.width → v < l.height → covers x y p.width p.height u v ≡ true → pixel l u v ≡ p.pixel (u - x) (v - y)
    inside u v in_u in_v hit = let c = (covers_decides x y p.width p.height u v).0 hit in grind (arith, c, past)

    outside : (u v : ℕ) → u < l.width → v < l.height → covers x y p.width p.height u v ≡ false → pixel l u v ≡ (grid_of l).pixel u v
    outside u v in_u in_v _ = sym (at_place l.width l.height (pixel l) u v in_u in_v)

-- a patch of a view with no place changes nothing
pub of_nothing : {T : Type 0} (l : Layout T) (x y : ℕ) (g : Grid T) (left top width height : ℕ) → (width ≡ 0) ⊎ (height ≡ 0) → patch (grid_of l) x y (view g left top width height) ≡ grid_of l
unfolding grid_of view
of_nothing l x y g left top width height none = sym (is_patch (grid_of l) x y (view g left top width height) (pixel l) inside outside)
  where
    inside : (u v : ℕ) → u < l.width → v < l.height → covers x y width height u v ≡ true → pixel l u v ≡ (view g left top width height).pixel (u - x) (v - y)
    inside u v in_u in_v hit = let c = (covers_decides x y width height u v).0 hit in grind (arith, c, none)

    outside : (u v : ℕ) → u < l.width → v < l.height → covers x y width height u v ≡ false → pixel l u v ≡ (grid_of l).pixel u v
    outside u v in_u in_v _ = sym (at_place l.width l.height (pixel l) u v in_u in_v)

-- ---- in a view

-- a rectangle in a view, put where the view was seen, is one at the sum of the corners
pub fill_in_view : {T : Type 0} (g : Grid T) (left top width height x y columns lines : ℕ) (value : T) → x + columns ≤ width → y + lines ≤ height
    → patch g left top (patch (view g left top width height) x y (uniform columns lines value)) ≡ patch g (left + x) (top + y) (uniform columns lines value)
unfolding uniform
fill_in_view g left top width height x y columns lines value across down = patch_of_view g left top width height x y (uniform columns lines value) across down

-- ---- for a caller's `using`

-- what the edge cuts, and what was put
pub ruleset patches = (clipped, clipped_image, past_edge, of_nothing, put_pixel)

-- what is at a place
pub ruleset at_places = (in_patch, beside_patch, in_view, in_uniform, in_one_row, in_row, put_pixel)
