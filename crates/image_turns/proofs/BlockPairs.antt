-- Squares of pixels of several cells of which pairs of blocks change places across the diagonal: by rows of blocks, each from the diagonal on.
use Rattle.std.proofs.Common.{◌≡◌, ℕ, ◌+◌, ◌*◌, ◌/◌, ◌%◌, ◌<◌, ◌≤◌, ◌⊎◌, Bool, true, false, List, sym, ap, ◌∙◌, arith, inl, inr, nat_lt, ◌||◌, ◌&&◌, max, min}
use Rattle.std.proofs.lemmas.Bool.Decides.{nat_tests}
use Rattle.std.proofs.lemmas.Nat.{mul-le}
use Rattle.std.proofs.Math.Nat.{add-mul}
use Rattle.image_model.specs.Layout.{pixel}
use Rattle.image_model.specs.Windows.{IsInside, Window, window}
use Rattle.image_model.specs.Grid.{Grid, grid, grid_of, view}
use Rattle.image_model.proofs.Grids.{at_place, pixel_at, same_grids}
use Rattle.image_shape.specs.Shape.{shaped, shaped_grid}
use Rattle.image_shape.specs.declared.shape.Shape.{Shape}
use Rattle.image_turns.specs.Blocks.{is_across, pixels_crossed_at}
use Rattle.image_turns.specs.Oriented.{oriented}
use Rattle.image_turns.specs.declared.pixel_turning.Orientation.TheVariants.{Transposed}
use Rattle.image_writes.specs.Written.{Becomes}
use Rattle.image_writes.proofs.PixelsOfRows.{pixels_of_row}
use Rattle.image_turns.proofs.PlacesCrossed.{PlacesCrossed, across_column, across_within, crossed_pixel, no_place_crossed, same_places, blocks_crossed}

-- whether the pair of column a and row b has changed places: its row is one of the first `top`, or one of the first `below` and its column one of the first `left`
abbrev pub is_done : ℕ → ℕ → ℕ → ℕ → ℕ → Bool
is_done top below left a b = nat_lt b top || (nat_lt b below && nat_lt a left)

-- whether a place and the one across the diagonal have changed places
abbrev pub pair_done : ℕ → ℕ → ℕ → ℕ → ℕ → Bool
pair_done top below left u v = is_done top below left (max u v) (min u v)

-- the points of the loops
pub none_done : (a b : ℕ) → is_done 0 0 0 a b ≡ false
none_done a b = grind (arith, nat_tests)

pub at_row_start : (top below a b : ℕ) → b ≤ a → is_done top top 0 a b ≡ is_done top below top a b
at_row_start top below a b order = grind (arith, nat_tests, order)

pub at_row_end : (top below left a b : ℕ) → a < left → top ≤ below → is_done top below left a b ≡ is_done below below 0 a b
at_row_end top below left a b wide later = grind (arith, nat_tests, wide, later)

pub first_done : (top a b : ℕ) → b < top → is_done top top 0 a b ≡ true
first_done top a b here = grind (arith, nat_tests, here)

pub this_before : (top below left a b : ℕ) → top ≤ b → left ≤ a → is_done top below left a b ≡ false
this_before top below left a b line column = grind (arith, nat_tests, line, column)

pub this_after : (top below right a b : ℕ) → b < below → a < right → is_done top below right a b ≡ true
this_after top below right a b line column = grind (arith, nat_tests, line, column)

pub other_same : (top below left right a b : ℕ) → left ≤ right → ((top ≤ b) × (b < below) × (left ≤ a) × (a < right) → ⊥) → is_done top below left a b ≡ is_done top below right a b
other_same top below left right a b more other = grind (arith, nat_tests, more, other)

-- a pair of blocks of which the first is on the diagonal, or to the right of it
module _ (left top width height : ℕ) (on : ((left ≡ top) × (width ≡ height)) ⊎ (top + height ≤ left)) where
  -- a place is in one of them where the pair has such a column and such a row
  pub across : (u v : ℕ) → is_across left top width height u v ≡ true → (top ≤ min u v) × (min u v < top + height) × (left ≤ max u v) × (max u v < left + width)
  across u v hit = (grind (arith, nat_tests, on, hit), grind (arith, nat_tests, on, hit), grind (arith, nat_tests, on, hit), grind (arith, nat_tests, on, hit))

  -- and in none where it hasn't
  pub beside : (u v : ℕ) → is_across left top width height u v ≡ false → (top ≤ min u v) × (min u v < top + height) × (left ≤ max u v) × (max u v < left + width) → ⊥
  beside u v miss there = grind (arith, nat_tests, on, miss, there)

-- a window of pixels is inside where its columns and rows are
pub pixels_inside : (size side width left top count lines : ℕ) (w : Window) → width ≡ side * size → w ≡ window (left * size) top (count * size) lines → left + count ≤ side → top + lines ≤ side → IsInside width side w
pixels_inside size side width left top count lines w square is across down = (
  omega (arith, square, ap (λ w. w.left) is, ap (λ w. w.width) is, mul-le (left + count) size side size across (omega arith), add-mul left count size),
  omega (arith, ap (λ w. w.top) is, ap (λ w. w.height) is, down),
)

-- the whole of a transposed image
pub whole_across : {T : Type 0} (size : ℕ) (g : Grid T) (left columns lines : ℕ) → left ≡ 0 → columns ≡ g.height * size → lines ≡ g.width / size → view (oriented size Transposed g) left 0 columns lines ≡ oriented size Transposed g
unfolding view
whole_across size g left columns lines begins wide high =
    let w : ℕ = g.height * size in
    let h : ℕ = g.width / size in
    let same : (n : ℕ) → 0 + n ≡ n = λ n. omega arith in
    (λ i. view (oriented size Transposed g) (begins i) 0 (wide i) (high i))
    ∙ same_grids w h _ (λ x y. g.pixel (y * size + x % size) (x / size))
    (λ x y column line. (λ i. (oriented size Transposed g).pixel (same x i) (same y i)) ∙ at_place w h (λ u v. g.pixel (v * size + u % size) (u / size)) x y column line)

-- the pairs of pixels that are done have changed places, and the padding stays
abbrev pub PairsCrossed : {T : Type 0} → (size top below left : ℕ) → List T → List T → Shape → Type 0
PairsCrossed size top below left old new s = PlacesCrossed size (pair_done top below left) old new s

module _ (size : ℕ) (some : 0 < size) {T : Type 0} (s : Shape) where
  -- no pair yet
  pub none_crossed : (cells : List T) → PairsCrossed size 0 0 0 cells cells s
  none_crossed cells = no_place_crossed size some s (pair_done 0 0 0) (λ u v. none_done (max u v) (min u v)) cells

  module _ (square : s.width ≡ s.height * size) (old now : List T) (top below left : ℕ) (so : PairsCrossed size top below left old now s) where
    -- a row of blocks begins on the diagonal
    pub row_begins : (upto : ℕ) → below ≡ top → left ≡ 0 → PairsCrossed size top upto top old now s
    row_begins upto none first =
        same_places size some s (pair_done top below left) old now so (pair_done top upto top)
        (λ u v column line. (λ i. is_done top (none i) (first i) (max (u / size) v) (min (u / size) v)) ∙ at_row_start top upto (max (u / size) v) (min (u / size) v) (omega arith))

    -- and is at its end where the next one begins
    pub row_crossed : s.height ≤ left → top ≤ below → PairsCrossed size below below 0 old now s
    row_crossed wide later =
        same_places size some s (pair_done top below left) old now so (pair_done below below 0)
        (λ u v column line. at_row_end top below left (max (u / size) v) (min (u / size) v) (omega (arith, (across_within size some s.width s.height square u v column line).1, line, wide)) later)

    -- one pair more
    module _ (width height : ℕ) (is_below : below ≡ top + height) (on : ((left ≡ top) × (width ≡ height)) ⊎ (below ≤ left)) (new : List T)
        (made : Becomes s now new (pixels_crossed_at size left top width height (shaped_grid now s))) where
      on_it : ((left ≡ top) × (width ≡ height)) ⊎ (top + height ≤ left)
      on_it = elim on [ inl same ↦ inl same | inr right ↦ inr (omega (arith, right, is_below)) ]

      pub one_pair_more : PairsCrossed size top below (left + width) old new s
      one_pair_more =
          blocks_crossed size some s (pair_done top below left) old now so (pair_done top below (left + width)) square left top width height new made
          (λ u v hit. let p = across left top width height on_it u v hit in this_before top below left (max v u) (min v u) (omega (arith, p)) (omega (arith, p)))
          (λ u v hit. let p = across left top width height on_it u v hit in this_after top below (left + width) (max u v) (min u v) (omega (arith, p, is_below)) (omega (arith, p)))
          (λ u v miss.
          other_same top below left (left + width) (max u v) (min u v) (omega arith) (λ there. beside left top width height on_it u v miss (there.0, omega (arith, there.1, is_below), there.2, there.3)))

    -- all pairs
    pub all_pairs : below ≡ top → left ≡ 0 → s.height ≤ top → Becomes s old now (oriented size Transposed (shaped_grid old s))
    unfolding grid_of
    all_pairs none first all =
        let done : (u v : ℕ) → u < s.width → v < s.height → pair_done top below left (u / size) v ≡ true =
        λ u v column line. (λ i. is_done top (none i) (first i) (max (u / size) v) (min (u / size) v)) ∙ first_done top (max (u / size) v) (min (u / size) v) (omega (arith, line, all)) in
        record {
          grid =
              same_grids s.width s.height (pixel (shaped now s)) (λ u v. (shaped_grid old s).pixel (across_column size u v) (u / size))
              (λ u v column line. sym (pixel_at (shaped now s) u v column line) ∙ so.each u v column line ∙ ap (λ b. crossed_pixel size b (shaped_grid old s) u v) (done u v column line))
              ∙ (λ i. grid (square i) (sym (pixels_of_row size s.height s.width some square) i) (λ x y. (shaped_grid old s).pixel (across_column size x y) (x / size)));
          outside = so.outside;
        }
