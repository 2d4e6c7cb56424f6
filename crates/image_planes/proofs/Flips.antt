-- Grids of bytes whose pixels are in the opposite order.
use Rattle.std.proofs.Common.{◌≡◌, ℕ, suc, ◌+◌, ◌-◌, ◌*◌, ◌/◌, ◌%◌, ◌<◌, ◌∙◌, Option, sym, arith}
use Rattle.std.proofs.lemmas.Nat.{div-mul-add, mod_below, div_below, mul-le}
use Rattle.std.proofs.Math.Nat.{suc-mul}
use Rattle.image_model.specs.Layout.{Layout}
use Rattle.image_model.specs.Grid.{Grid, grid_of, patch, view}
use Rattle.image_model.proofs.Grids.{at_place, is_patch, covers_decides}
use Rattle.image_model.specs.Windows.{window_view}
use Rattle.image_writes.specs.Mirrored.{mirrored_by}
use Rattle.image_shape.specs.declared.window.Window.{Window}
use Rattle.image_shape.specs.Window.{as_window}

-- where the byte comes from that a place shows, of so many bytes in a row
abbrev pub mirror : ℕ → ℕ → ℕ → ℕ
mirror size width x = (width / size - 1 - x / size) * size + x % size

-- it is one of the row
pub mirror_within : (size width x : ℕ) → 0 < size → width ≡ width / size * size → x < width → mirror size width x < width
mirror_within size width x some whole column =
    let pixel : x / size < width / size = div_below x size (width / size) some (omega (arith, column, whole)) in
    let below : width / size - 1 - x / size < width / size = omega (arith, pixel) in
    omega (arith, whole, mul-le (suc (width / size - 1 - x / size)) size (width / size) size (omega (arith, below)) (omega arith), suc-mul (width / size - 1 - x / size) size, mod_below x size some)

-- and its pixel is as far from the end as the other's from the beginning
pub mirror_pixel : (size width x : ℕ) → 0 < size → mirror size width x / size ≡ width / size - 1 - x / size
mirror_pixel size width x some = div-mul-add (width / size - 1 - x / size) size (x % size) (mod_below x size some)

module _ (size : ℕ) (g : Grid ℕ) where
  -- the window of the whole
  whole_mirrored_by : 0 < size → g.width ≡ g.width / size * size → patch g 0 0 (mirrored_by size (view g 0 0 g.width g.height)) ≡ mirrored_by size g
  unfolding view
  whole_mirrored_by some whole =
      let w : ℕ = g.width in
      let h : ℕ = g.height in
      let f : ℕ → ℕ → Option ℕ = λ x y. g.pixel (mirror size w x) y in
      sym (is_patch g 0 0 (mirrored_by size (view g 0 0 w h)) f
      (λ x y column line hit.
      let back : x - 0 ≡ x = omega arith in
      let up : y - 0 ≡ y = omega arith in
      let across : 0 + mirror size w x ≡ mirror size w x = omega arith in
      let down : 0 + y ≡ y = omega arith in
      sym ((λ i. (mirrored_by size (view g 0 0 w h)).pixel (back i) (up i))
      ∙ at_place w h (λ u v. (view g 0 0 w h).pixel (mirror size w u) v) x y column line
      ∙ at_place w h (λ u v. g.pixel (0 + u) (0 + v)) (mirror size w x) y (mirror_within size w x some whole column) line
      ∙ (λ i. g.pixel (across i) (down i))))
      (λ x y column line miss. absurd (let hit = (covers_decides 0 0 w h x y).1 (omega arith, omega arith, omega (arith, column), omega (arith, line)) in let bad = sym hit ∙ miss in cc)))

-- the same of what a layout shows
pub whole_mirrored : (size : ℕ) (l : Layout ℕ) (w : Window) → 0 < size → w.left ≡ 0 → w.top ≡ 0 → w.width ≡ l.width → w.height ≡ l.height → l.width ≡ l.width / size * size
    → patch (grid_of l) w.left w.top (mirrored_by size (window_view (grid_of l) (as_window w))) ≡ mirrored_by size (grid_of l)
unfolding grid_of
whole_mirrored size l w some left top across down whole =
    (λ i. patch (grid_of l) (left i) (top i) (mirrored_by size (view (grid_of l) (left i) (top i) (across i) (down i)))) ∙ whole_mirrored_by size (grid_of l) some whole
