-- Pixels of several cells that are turned in place: two steps that make a turn.
use Rattle.std.proofs.Common.{◌≡◌, ℕ, ◌+◌, ◌-◌, ◌*◌, ◌/◌, ◌%◌, ◌<◌, ◌≤◌, length, Option, sym, ap, ◌∙◌, arith, inl, inr}
use Rattle.std.proofs.lemmas.Bool.{cases_lt}
use Rattle.std.proofs.lemmas.Nat.{mod_below, div_below, div-mul-add, mod-mul-add, mul-le}
use Rattle.std.proofs.Math.Nat.{mul-div_cancel}
use Rattle.image_model.specs.Layout.{Layout, Fits, pixel}
use Rattle.image_model.specs.Grid.{Grid, grid, grid_of}
use Rattle.image_model.specs.Flips.{flipped}
use Rattle.image_model.proofs.Grids.{at_place, pixel_at, same_grids}
use Rattle.image_turns.specs.Oriented.{oriented}
use Rattle.image_writes.specs.Mirrored.{mirrored_by}
use Rattle.image_turns.specs.declared.pixel_turning.Orientation.TheVariants.{Transposed, Right, Half, Left}
use Rattle.image_writes.proofs.PixelsOfRows.{cells_within, pixels_of_row}

module _ (size : ℕ) (some : 0 < size) where
  module _ {T : Type 0} (g : Grid T) where
    abbrev w : ℕ
    w = g.height * size

    abbrev h : ℕ
    h = g.width / size

    abbrev turned_over : ℕ → ℕ → Option T
    turned_over x y = g.pixel (y * size + x % size) (x / size)

    -- transposed, and then mirrored
    pub right_from_transposed_by : mirrored_by size (oriented size Transposed g) ≡ oriented size Right g
    right_from_transposed_by =
        same_grids w h _ _ (λ x y column line.
        let number : x / size < g.height = div_below x size g.height some column in
        let many : w / size ≡ g.height = mul-div_cancel g.height some in
        let back : ℕ = w / size - 1 - x / size in
        let back_is : back ≡ g.height - 1 - x / size = ap (λ n. n - 1 - x / size) many in
        let below : x % size < size = mod_below x size some in
        at_place w h turned_over (back * size + x % size) y (cells_within size g.height back (x % size) (omega (arith, back_is, number)) below) line
        ∙ (λ i. g.pixel (y * size + mod-mul-add back size (x % size) below i) ((div-mul-add back size (x % size) below ∙ back_is) i)))

    -- transposed, and then upside down
    pub left_from_transposed_by : flipped (oriented size Transposed g) ≡ oriented size Left g
    unfolding flipped
    left_from_transposed_by = same_grids w h _ _ (λ x y column line. at_place w h turned_over x (h - 1 - y) column (omega (arith, line)))

    -- mirrored, and then upside down
    pub half_from_mirrored_by : (columns : ℕ) → g.width ≡ columns * size → flipped (mirrored_by size g) ≡ oriented size Half g
    unfolding flipped
    half_from_mirrored_by columns wide =
        same_grids g.width g.height _ _ (λ x y column line. at_place g.width g.height (λ u v. g.pixel ((h - 1 - u / size) * size + u % size) v) x (g.height - 1 - y) column (omega (arith, line)))
        ∙ (λ i. grid ((wide ∙ ap (λ n. n * size) (sym (pixels_of_row size columns g.width some wide))) i) g.height (λ x y. g.pixel ((h - 1 - x / size) * size + x % size) (g.height - 1 - y)))

-- so few cells have one pixel at most, which stays
pub one_pixel : {T : Type 0} (size : ℕ) (l : Layout T) → 1 < size → Fits l → l.width ≤ l.stride → l.width ≡ l.height * size → length l.cells < 4 → grid_of l ≡ oriented size Transposed (grid_of l)
unfolding grid_of
one_pixel {T} size l some fits wide square few =
    let low : l.height < 2 = elim (cases_lt l.height 2) [
      | inl low ↦ low
      | inr high ↦
          let four : 2 * size ≤ l.height * size = mul-le 2 size l.height size high (omega arith) in
          absurd (omega (arith, four, some, square, few, fits (omega (arith, four, some, square)) (omega (arith, high))))
    ] in
    let up : l.height * size ≤ 1 * size = mul-le l.height size 1 size (omega (arith, low)) (omega arith) in
    same_grids l.width l.height (pixel l) (λ x y. (grid_of l).pixel (y * size + x % size) (x / size))
    (λ x y column line.
    let here : x < size = omega (arith, column, square, up) in
    let first : 0 ≡ y = omega (arith, line, low) in
    let back : 0 * size + x ≡ x = omega arith in
    let rest : x % size ≡ 0 * size + x % size = omega arith in
    let from : x ≡ y * size + x % size = sym (mod-mul-add 0 size x here) ∙ ap (λ n. n % size) back ∙ rest ∙ ap (λ n. n * size + x % size) first in
    let row : y ≡ x / size = sym first ∙ sym (div-mul-add 0 size x here) ∙ ap (λ n. n / size) back in
    sym (pixel_at l x y column line) ∙ (λ i. (grid_of l).pixel (from i) (row i)))
    ∙ (λ i. grid (square i) (sym (pixels_of_row size l.height l.width (omega (arith, some)) square) i) (λ x y. (grid_of l).pixel (y * size + x % size) (x / size)))
