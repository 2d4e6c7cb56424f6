-- Squares of pixels of several cells of which some have changed places with those across the diagonal: two blocks that do, and blocks one after the other.
use Rattle.std.proofs.Common.{◌≡◌, ℕ, ◌+◌, ◌-◌, ◌*◌, ◌/◌, ◌%◌, ◌<◌, ◌≤◌, Bool, true, false, List, Option, refl, sym, ap, ◌∙◌, arith, inl, inr, nat_lt, nat_le, if◌then◌else◌, ◌||◌, ◌&&◌}
use Rattle.std.proofs.lemmas.Bool.{cases_Bool, cond-true, cond-false}
use Rattle.std.proofs.lemmas.Bool.Decides.{nat_tests}
use Rattle.std.proofs.lemmas.Nat.{mod_below, div_below, div-add-mod', div-mul-add, mod-mul-add}
use Rattle.std.proofs.Math.Nat.{add-mul, mul-div_cancel, le-div_iff_mul-le, div-lt_iff_lt-mul}
use Rattle.image_model.specs.Layout.{SameOutside}
use Rattle.image_model.specs.Grid.{Grid, grid, grid_of, covers, patch, view}
use Rattle.image_model.proofs.Grids.{at_place, covers_decides, is_patch}
use Rattle.image_model.proofs.Patches.{in_view}
use Rattle.image_model.proofs.Places.{outside_trans}
use Rattle.image_shape.specs.Shape.{shaped, shaped_grid}
use Rattle.image_shape.specs.declared.shape.Shape.{Shape}
use Rattle.image_turns.specs.Blocks.{is_across, pixels_crossed_at}
use Rattle.image_turns.specs.Oriented.{oriented}
use Rattle.image_turns.specs.declared.pixel_turning.Orientation.TheVariants.{Transposed}
use Rattle.image_writes.specs.Written.{Becomes}
use Rattle.image_writes.proofs.PixelsOfRows.{cells_within}

-- the pixel across the diagonal from a cell's pixel: the column of its cell, and the row is x / size
abbrev pub across_column : ℕ → ℕ → ℕ → ℕ
across_column size x y = y * size + x % size

-- the cell of the pixel at a place, or across the diagonal
abbrev pub crossed_pixel : {T : Type 0} → ℕ → Bool → Grid T → ℕ → ℕ → Option T
crossed_pixel size b g u v = if b then g.pixel (across_column size u v) (u / size) else g.pixel u v

-- the pixels that are done have changed places, and the padding stays
pub record PlacesCrossed {T : Type 0} (size : ℕ) (done : ℕ → ℕ → Bool) (old new : List T) (s : Shape) : Type 0 where
  pub outside : SameOutside (shaped old s) (shaped new s)
  pub each : (u v : ℕ) → u < s.width → v < s.height → (shaped_grid new s).pixel u v ≡ crossed_pixel size (done (u / size) v) (shaped_grid old s) u v

module _ (size : ℕ) (some : 0 < size) where
  from_column : (n x : ℕ) → nat_le n (x / size) ≡ nat_le (n * size) x
  from_column n x = let either = le-div_iff_mul-le {x = n} {y = x} some in grind (arith, nat_tests, either)

  to_column : (n x : ℕ) → nat_lt (x / size) n ≡ nat_lt x (n * size)
  to_column n x = let either = div-lt_iff_lt-mul {x = x} {y = n} some in grind (arith, nat_tests, either)

  -- a cell is in a window of pixels where its pixel is
  pub pixel_covered : (left top width height x y : ℕ) → covers left top width height (x / size) y ≡ covers (left * size) top (width * size) height x y
  pixel_covered left top width height x y =
      let upto = to_column (left + width) x ∙ ap (nat_lt x) (add-mul left width size) in
      λ i. from_column left x i && (nat_le top y && (upto i && nat_lt y (top + height)))

  -- a cell of a window, counted from the window's first pixel
  pixel_from : (n x : ℕ) → n ≤ x / size → ((x - n * size) / size ≡ x / size - n) × ((x - n * size) % size ≡ x % size)
  pixel_from n x from =
      let q : ℕ = x / size - n in
      let back : n + q ≡ x / size = omega (arith, from) in
      let is : x - n * size ≡ q * size + x % size = omega (arith, div-add-mod' x size, ap (λ k. k * size) back, add-mul n q size) in
      (ap (λ k. k / size) is ∙ div-mul-add q size (x % size) (mod_below x size some), ap (λ k. k % size) is ∙ mod-mul-add q size (x % size) (mod_below x size some))

  module _ (width height : ℕ) (square : width ≡ height * size) where
    -- is there, in a square
    pub across_within : (u v : ℕ) → u < width → v < height → (across_column size u v < width) × (u / size < height)
    across_within u v column line =
        (omega (arith, square, cells_within size height v (u % size) line (mod_below u size some)), div_below u size height some (omega (arith, square, column)))

  -- ---- two blocks that change places

  module _ {T : Type 0} (w h : ℕ) (f : ℕ → ℕ → Option T) (left top width height : ℕ) where
    abbrev g : Grid T
    g = grid w h f

    abbrev first : ℕ → ℕ → Option T
    first x y = if covers top left height width (x / size) y then g.pixel (across_column size x y) (x / size) else g.pixel x y

    -- a view of pixels, transposed
    abbrev seen_across : ℕ → ℕ → ℕ → ℕ → Grid T
    seen_across a b m n = grid (m * size) n (λ x y. (view g (b * size) a (n * size) m).pixel (across_column size x y) (x / size))

    seen_is : (a b m n : ℕ) → oriented size Transposed (view g (b * size) a (n * size) m) ≡ seen_across a b m n
    unfolding view
    seen_is a b m n = λ i. grid (m * size) (mul-div_cancel n some i) (λ x y. (view g (b * size) a (n * size) m).pixel (across_column size x y) (x / size))

    -- a place of a block has the pixel across the diagonal
    in_across : (a b m n x y : ℕ) → covers a b m n (x / size) y ≡ true → g.pixel (across_column size x y) (x / size) ≡ (seen_across a b m n).pixel (x - a * size) (y - b)
    in_across a b m n x y hit =
        let c = (covers_decides a b m n (x / size) y).0 hit in
        let d = (covers_decides (a * size) b (m * size) n x y).0 (sym (pixel_covered a b m n x y) ∙ hit) in
        let from = pixel_from a x c.0 in
        let in_x : x - a * size < m * size = omega (arith, d.0, d.2) in
        let in_y : y - b < n = omega (arith, c.1, c.3) in
        let in_row : x / size - a < m = omega (arith, c.0, c.2) in
        let same_row : a + (x / size - a) ≡ x / size = omega (arith, c.0) in
        let line : b + (y - b) ≡ y = omega (arith, c.1) in
        let same_column : b * size + ((y - b) * size + x % size) ≡ y * size + x % size = omega (arith, ap (λ k. k * size) line, add-mul b (y - b) size) in
        sym (at_place (m * size) n (λ u v. (view g (b * size) a (n * size) m).pixel (across_column size u v) (u / size)) (x - a * size) (y - b) in_x in_y
        ∙ (λ i. (view g (b * size) a (n * size) m).pixel ((y - b) * size + from.1 i) (from.0 i))
        ∙ in_view g (b * size) a (n * size) m ((y - b) * size + x % size) (x / size - a) (cells_within size n (y - b) (x % size) in_y (mod_below x size some)) in_row
        ∙ (λ i. g.pixel (same_column i) (same_row i)))

    first_patch : grid w h first ≡ patch g (top * size) left (seen_across top left height width)
    first_patch =
        is_patch g (top * size) left (seen_across top left height width) first
        (λ x y column line hit. let there = pixel_covered top left height width x y ∙ hit in cond-true (covers top left height width (x / size) y) _ _ there ∙ in_across top left height width x y there)
        (λ x y column line miss. cond-false (covers top left height width (x / size) y) _ _ (pixel_covered top left height width x y ∙ miss))

    second_patch : pixels_crossed_at size left top width height g ≡ patch (grid w h first) (left * size) top (seen_across left top width height)
    second_patch =
        is_patch (grid w h first) (left * size) top (seen_across left top width height) (λ x y. if is_across left top width height (x / size) y then g.pixel (across_column size x y) (x / size) else g.pixel x y)
        (λ x y column line hit.
        let there = pixel_covered left top width height x y ∙ hit in
        ap (λ b. if b || covers top left height width (x / size) y then g.pixel (across_column size x y) (x / size) else g.pixel x y) there ∙ in_across left top width height x y there)
        (λ x y column line miss.
        ap (λ b. if b || covers top left height width (x / size) y then g.pixel (across_column size x y) (x / size) else g.pixel x y) (pixel_covered left top width height x y ∙ miss)
        ∙ sym (at_place w h first x y column line))

    -- both are read, transposed, before one is written
    pub both_pixels_crossed : patch (patch g (top * size) left (oriented size Transposed (view g (left * size) top (width * size) height))) (left * size) top (oriented size Transposed (view g (top * size) left (height * size) width))
        ≡ pixels_crossed_at size left top width height g
    both_pixels_crossed = (λ i. patch (patch g (top * size) left (seen_is top left height width i)) (left * size) top (seen_is left top width height i)) ∙ ap (λ p. patch p (left * size) top (seen_across left top width height)) (sym first_patch) ∙ sym second_patch

  -- ---- blocks one after the other

  module _ {T : Type 0} (s : Shape) (done : ℕ → ℕ → Bool) where
    -- no pixel yet
    pub no_place_crossed : ((u v : ℕ) → done u v ≡ false) → (cells : List T) → PlacesCrossed size done cells cells s
    no_place_crossed none cells = record {
      outside = record { width_stays = refl; height_stays = refl; stride_stays = refl; length_stays = refl; padding_stays = λ k padding. refl };
      each = λ u v column line. ap (λ b. crossed_pixel size b (shaped_grid cells s) u v) (sym (none (u / size) v));
    }

    module _ (old now : List T) (so : PlacesCrossed size done old now s) (other : ℕ → ℕ → Bool) where
      -- the same pixels, said in another way
      pub same_places : ((u v : ℕ) → u < s.width → v < s.height → done (u / size) v ≡ other (u / size) v) → PlacesCrossed size other old now s
      same_places alike = record {
        outside = so.outside;
        each = λ u v column line. so.each u v column line ∙ ap (λ b. crossed_pixel size b (shaped_grid old s) u v) (alike u v column line);
      }

      -- a pair of blocks more
      module _ (square : s.width ≡ s.height * size) (left top width height : ℕ) (new : List T) (made : Becomes s now new (pixels_crossed_at size left top width height (shaped_grid now s)))
          (before : (u v : ℕ) → is_across left top width height u v ≡ true → done v u ≡ false) (after : (u v : ℕ) → is_across left top width height u v ≡ true → other u v ≡ true)
          (beside : (u v : ℕ) → is_across left top width height u v ≡ false → done u v ≡ other u v) where
        shown_at : (u v : ℕ) → u < s.width → v < s.height → (shaped_grid new s).pixel u v ≡ crossed_pixel size (is_across left top width height (u / size) v) (shaped_grid now s) u v
        unfolding grid_of
        shown_at u v column line =
            ap (λ g. g.pixel u v) made.grid
            ∙ at_place s.width s.height (λ m n. crossed_pixel size (is_across left top width height (m / size) n) (shaped_grid now s) m n) u v column line

        crossed_more : (u v : ℕ) → u < s.width → v < s.height → (shaped_grid new s).pixel u v ≡ crossed_pixel size (other (u / size) v) (shaped_grid old s) u v
        crossed_more u v column line =
            elim (cases_Bool (is_across left top width height (u / size) v)) [
              | inl hit ↦
                  let there = across_within s.width s.height square u v column line in
                  shown_at u v column line
                  ∙ cond-true (is_across left top width height (u / size) v) _ _ hit
                  ∙ so.each (across_column size u v) (u / size) there.0 there.1
                  ∙ ap (λ n. crossed_pixel size (done n (u / size)) (shaped_grid old s) (across_column size u v) (u / size)) (div-mul-add v size (u % size) (mod_below u size some))
                  ∙ ap (λ b. crossed_pixel size b (shaped_grid old s) (across_column size u v) (u / size)) (before (u / size) v hit)
                  ∙ ap (λ b. crossed_pixel size b (shaped_grid old s) u v) (sym (after (u / size) v hit))
              | inr miss ↦
                  shown_at u v column line
                  ∙ cond-false (is_across left top width height (u / size) v) _ _ miss
                  ∙ so.each u v column line
                  ∙ ap (λ b. crossed_pixel size b (shaped_grid old s) u v) (beside (u / size) v miss)
            ]

        pub blocks_crossed : PlacesCrossed size other old new s
        blocks_crossed = record { outside = outside_trans (shaped old s) (shaped now s) (shaped new s) so.outside made.outside; each = crossed_more }
