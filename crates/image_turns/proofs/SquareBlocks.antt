-- Squares of which blocks of 16 by 16 pixels change places with those across the diagonal, pair by pair.
use Rattle.std.proofs.Common.{◌≡◌, ℕ, ◌+◌, ◌*◌, ◌/◌, ◌%◌, ◌<◌, ◌≤◌, Bool, true, false, List, Option, sym, ap, ◌∙◌, arith, nat_lt, if◌then◌else◌, ◌||◌, ◌&&◌, max, min}
use Rattle.std.proofs.lemmas.Bool.{cond-true}
use Rattle.std.proofs.lemmas.Bool.Decides.{nat_tests}
use Rattle.image_model.specs.Layout.{pixel}
use Rattle.image_model.specs.Grid.{Grid, grid, grid_of, view}
use Rattle.image_model.specs.Tables.{is_before}
use Rattle.image_model.specs.Turns.{transposed}
use Rattle.image_model.specs.Windows.{Window, window_view}
use Rattle.image_model.proofs.Grids.{at_place, pixel_at, same_grids}
use Rattle.image_model.proofs.Places.{outside_trans}
use Rattle.image_shape.specs.Shape.{shaped, shaped_grid}
use Rattle.image_shape.specs.declared.shape.Shape.{Shape}
use Rattle.image_turns.specs.Blocks.{read_over, is_across, pixels_crossed_at, corner_crossed, is_in_strip, strip_crossed}
use Rattle.image_writes.specs.Written.{Becomes}
use Rattle.image_turns.proofs.PlacesCrossed.{PlacesCrossed, no_place_crossed, same_places, blocks_crossed}

-- rows that are read in their order
pub read_plain : {T : Type 0} (w h : ℕ) (f : ℕ → ℕ → Option T) → read_over false (grid w h f) ≡ grid w h f
read_plain w h f = same_grids w h _ f (λ x y column line. at_place w h f x y column line)

-- so are those of a window
pub read_window : {T : Type 0} (g : Grid T) (w : Window) {seen : Grid T} → seen ≡ window_view g w → read_over false seen ≡ window_view g w
unfolding view
read_window g w shows = ap (read_over false) shows ∙ read_plain w.width w.height (λ x y. g.pixel (w.left + x) (w.top + y))

-- ---- pairs of blocks one after the other

-- whether the pair of column a and row b has changed places: its column is one of the first `from`, or one of the first `upto` and comes before column x of row y
abbrev pub is_done : ℕ → ℕ → ℕ → ℕ → ℕ → ℕ → Bool
is_done from upto x y a b = nat_lt a from || (nat_lt a upto && is_before x y a b)

-- whether the blocks of a place and of the one across the diagonal have changed places
abbrev pub block_done : ℕ → ℕ → ℕ → ℕ → ℕ → ℕ → Bool
block_done from upto x y u v = is_done from upto x y (max (u / 16) (v / 16)) (min (u / 16) (v / 16))

-- these pairs of blocks have changed places, and the padding stays
abbrev pub BlocksCrossed : {T : Type 0} → ℕ → ℕ → ℕ → ℕ → List T → List T → Shape → Type 0
BlocksCrossed from upto x y old new s = PlacesCrossed 1 (block_done from upto x y) old new s

-- the other points of the loops, for a column that is not before the row
at_row_start : (from upto y a b : ℕ) → b ≤ a → is_done from upto 0 y a b ≡ is_done from upto (max from y) y a b
at_row_start from upto y a b below = grind (arith, nat_tests, below)

at_row_end : (from upto x y a b : ℕ) → b ≤ a → upto ≤ x → is_done from upto x y a b ≡ is_done from upto 0 (y + 1) a b
at_row_end from upto x y a b below wide = grind (arith, nat_tests, below, wide)

at_strip_end : (from upto x y a b : ℕ) → b ≤ a → upto ≤ y → from ≤ upto → is_done from upto x y a b ≡ is_done upto upto 0 0 a b
at_strip_end from upto x y a b below high later = grind (arith, nat_tests, below, high, later)

at_strip_start : (from right a b : ℕ) → is_done from from 0 0 a b ≡ is_done from right 0 0 a b
at_strip_start from right a b = grind (arith, nat_tests)

none_done : (a b : ℕ) → is_done 0 0 0 0 a b ≡ false
none_done a b = grind (arith, nat_tests)

this_before : (from upto x y : ℕ) → from ≤ x → is_done from upto x y x y ≡ false
this_before from upto x y after = grind (arith, nat_tests, after)

this_after : (from upto x y : ℕ) → x < upto → is_done from upto (x + 1) y x y ≡ true
this_after from upto x y here = grind (arith, nat_tests, here)

other_same : (from upto x y a b : ℕ) → ((a ≡ x) × (b ≡ y) → ⊥) → is_done from upto x y a b ≡ is_done from upto (x + 1) y a b
other_same from upto x y a b other = grind (arith, nat_tests, other)

min_max : (a b : ℕ) → min a b ≤ max a b
min_max a b = omega arith

max_comm : (a b : ℕ) → max a b ≡ max b a
max_comm a b = omega arith

min_comm : (a b : ℕ) → min a b ≡ min b a
min_comm a b = omega arith

-- a place is in the block or across from it where their pair is this one
pair_of : (x y u v : ℕ) → y ≤ x → is_across (16 * x) (16 * y) 16 16 u v ≡ true → (max (u / 16) (v / 16) ≡ x) × (min (u / 16) (v / 16) ≡ y)
pair_of x y u v below hit = (grind (arith, nat_tests, below, hit), grind (arith, nat_tests, below, hit))

not_pair : (x y u v : ℕ) → is_across (16 * x) (16 * y) 16 16 u v ≡ false → (max (u / 16) (v / 16) ≡ x) × (min (u / 16) (v / 16) ≡ y) → ⊥
not_pair x y u v miss same = grind (arith, nat_tests, miss, same)

module _ {T : Type 0} (s : Shape) where
  -- no pair yet
  pub none_crossed : (cells : List T) → BlocksCrossed 0 0 0 0 cells cells s
  none_crossed cells = no_place_crossed 1 (omega arith) s (block_done 0 0 0 0) (λ u v. none_done (max (u / 16) (v / 16)) (min (u / 16) (v / 16))) cells

  module _ (old now : List T) (from upto x y : ℕ) (so : BlocksCrossed from upto x y old now s) where
    -- the same pairs, said by another point of the loops
    same_pairs : (j k m n : ℕ) → ((a b : ℕ) → b ≤ a → is_done from upto x y a b ≡ is_done j k m n a b) → BlocksCrossed j k m n old now s
    same_pairs j k m n alike =
        same_places 1 (omega arith) s (block_done from upto x y) old now so (block_done j k m n)
        (λ u v column line. alike (max (u / 1 / 16) (v / 16)) (min (u / 1 / 16) (v / 16)) (min_max (u / 1 / 16) (v / 16)))

    -- a strip of blocks begins after those before it
    pub strip_begins : (right : ℕ) → from ≡ upto → x ≡ 0 → y ≡ 0 → BlocksCrossed from right 0 0 old now s
    strip_begins right none first top = same_pairs from right 0 0 (λ a b below. (λ i. is_done from (sym none i) (first i) (top i) a b) ∙ at_strip_start from right a b)

    -- a row of the strip begins at its first column, and not before the diagonal
    pub row_begins : (start : ℕ) → x ≡ 0 → start ≡ max from y → BlocksCrossed from upto start y old now s
    row_begins start first at = same_pairs from upto start y (λ a b below. ap (λ n. is_done from upto n y a b) first ∙ at_row_start from upto y a b below ∙ ap (λ n. is_done from upto n y a b) (sym at))

    -- and is at its end where the next one begins
    pub row_crossed : upto ≤ x → BlocksCrossed from upto 0 (y + 1) old now s
    row_crossed wide = same_pairs from upto 0 (y + 1) (λ a b below. at_row_end from upto x y a b below wide)

    -- the strip is at its end after its last row
    pub strip_done : upto ≤ y → from ≤ upto → BlocksCrossed upto upto 0 0 old now s
    strip_done high later = same_pairs upto upto 0 0 (λ a b below. at_strip_end from upto x y a b below high later)

    -- one pair more
    module _ (square : s.width ≡ s.height) (right : y ≤ x) (after : from ≤ x) (here : x < upto) (new : List T) (made : Becomes s now new (pixels_crossed_at 1 (16 * x) (16 * y) 16 16 (shaped_grid now s))) where
      same_done : (u v : ℕ) → block_done from upto x y u v ≡ block_done from upto x y v u
      same_done u v = (λ i. is_done from upto x y (max_comm (u / 16) (v / 16) i) (min_comm (u / 16) (v / 16) i))

      pub one_pair_more : BlocksCrossed from upto (x + 1) y old new s
      one_pair_more =
          blocks_crossed 1 (omega arith) s (block_done from upto x y) old now so (block_done from upto (x + 1) y) (omega (arith, square)) (16 * x) (16 * y) 16 16 new made
          (λ u v hit. let pair = pair_of x y u v right hit in sym (same_done u v) ∙ (λ i. is_done from upto x y (pair.0 i) (pair.1 i)) ∙ this_before from upto x y after)
          (λ u v hit. let pair = pair_of x y u v right hit in (λ i. is_done from upto (x + 1) y (pair.0 i) (pair.1 i)) ∙ this_after from upto x y here)
          (λ u v miss. other_same from upto x y (max (u / 16) (v / 16)) (min (u / 16) (v / 16)) (not_pair x y u v miss))

-- ---- all pairs of blocks

corner_done : (n u v : ℕ) → block_done n n 0 0 u v ≡ (nat_lt u (16 * n) && nat_lt v (16 * n))
corner_done n u v = first_done n (max (u / 16) (v / 16)) (min (u / 16) (v / 16)) ∙ first_blocks n u v
  where
    first_done : (n a b : ℕ) → is_done n n 0 0 a b ≡ nat_lt a n
    first_done n a b = grind (arith, nat_tests)

    first_blocks : (n u v : ℕ) → nat_lt (max (u / 16) (v / 16)) n ≡ (nat_lt u (16 * n) && nat_lt v (16 * n))
    first_blocks n u v = grind (arith, nat_tests)

module _ {T : Type 0} (s : Shape) (old now : List T) where
  -- these are the first columns and rows
  pub all_pairs : (n : ℕ) → BlocksCrossed n n 0 0 old now s → shaped_grid now s ≡ corner_crossed (16 * n) (shaped_grid old s)
  unfolding grid_of
  all_pairs n so =
      same_grids s.width s.height (pixel (shaped now s)) (λ u v. if nat_lt u (16 * n) && nat_lt v (16 * n) then (shaped_grid old s).pixel v u else (shaped_grid old s).pixel u v)
      (λ u v column line.
      let row : u / 1 ≡ u = omega arith in
      let none : u % 1 ≡ 0 = omega arith in
      let cell : v * 1 + u % 1 ≡ v = omega (arith, none) in
      sym (pixel_at (shaped now s) u v column line)
      ∙ so.each u v column line
      ∙ (λ i. if block_done n n 0 0 (row i) v then (shaped_grid old s).pixel (cell i) (row i) else (shaped_grid old s).pixel u v)
      ∙ ap (λ b. if b then (shaped_grid old s).pixel v u else (shaped_grid old s).pixel u v) (corner_done n u v))

-- ---- strips of columns after a corner

-- a place changes places in a corner or in the strip after it where it does in both together
strip_added : {A : Type 0} (left right u v : ℕ) → left ≤ right → (p q : A) → (if is_in_strip left right u v then (if nat_lt v left && nat_lt u left then p else q) else (if nat_lt u left && nat_lt v left then q else p)) ≡ (if nat_lt u right && nat_lt v right then q else p)
strip_added left right u v more p q = grind (arith, nat_tests, more)

-- all places are in it, or in a strip
in_corner : (n u v : ℕ) → u < n → v < n → (nat_lt u n && nat_lt v n) ≡ true
in_corner n u v column line = grind (arith, nat_tests, column, line)

in_strip : (n u v : ℕ) → u < n → v < n → is_in_strip 0 n u v ≡ true
in_strip n u v column line = grind (arith, nat_tests, column, line)

module _ {T : Type 0} (w h : ℕ) (f : ℕ → ℕ → Option T) (square : w ≡ h) where
  abbrev corner_pixel : ℕ → ℕ → ℕ → Option T
  corner_pixel n x y = if nat_lt x n && nat_lt y n then (grid w h f).pixel y x else (grid w h f).pixel x y

  -- the corner is larger by the strip
  pub corner_and_strip : (left right : ℕ) → left ≤ right → strip_crossed left right (corner_crossed left (grid w h f)) ≡ corner_crossed right (grid w h f)
  corner_and_strip left right more =
      same_grids w h (λ x y. if is_in_strip left right x y then (corner_crossed left (grid w h f)).pixel y x else (corner_crossed left (grid w h f)).pixel x y) (corner_pixel right)
      (λ u v column line.
      let across = at_place w h (corner_pixel left) v u (omega (arith, line, square)) (omega (arith, column, square)) in
      let here = at_place w h (corner_pixel left) u v column line in
      (λ i. if is_in_strip left right u v then across i else here i) ∙ strip_added left right u v more ((grid w h f).pixel u v) ((grid w h f).pixel v u))

  -- all columns and rows
  pub whole_corner : (n : ℕ) → w ≤ n → corner_crossed n (grid w h f) ≡ transposed (grid w h f)
  unfolding transposed
  whole_corner n all =
      same_grids w h (corner_pixel n) (λ x y. (grid w h f).pixel y x) (λ u v column line. cond-true (nat_lt u n && nat_lt v n) _ _ (in_corner n u v (omega (arith, column, all)) (omega (arith, line, square, all))))
      ∙ (λ i. grid (square i) (sym square i) (λ x y. (grid w h f).pixel y x))

  -- a strip of all columns and rows
  pub whole_strip : (n : ℕ) → w ≤ n → strip_crossed 0 n (grid w h f) ≡ transposed (grid w h f)
  unfolding transposed
  whole_strip n all =
      same_grids w h (λ x y. if is_in_strip 0 n x y then (grid w h f).pixel y x else (grid w h f).pixel x y) (λ x y. (grid w h f).pixel y x)
      (λ u v column line. cond-true (is_in_strip 0 n u v) _ _ (in_strip n u v (omega (arith, column, all)) (omega (arith, line, square, all))))
      ∙ (λ i. grid (square i) (sym square i) (λ x y. (grid w h f).pixel y x))

-- the first columns and rows have changed places, and the padding stays
abbrev pub CornerCrossed : {T : Type 0} → ℕ → List T → List T → Shape → Type 0
CornerCrossed upto old new s = Becomes s old new (corner_crossed upto (shaped_grid old s))

module _ {T : Type 0} (s : Shape) (old now : List T) (upto : ℕ) (so : CornerCrossed upto old now s) (square : s.width ≡ s.height) where
  -- one strip more
  pub one_strip_more : (right : ℕ) (new : List T) → upto ≤ right → Becomes s now new (strip_crossed upto right (shaped_grid now s)) → CornerCrossed right old new s
  unfolding grid_of
  one_strip_more right new more strip = record {
    grid = strip.grid ∙ ap (strip_crossed upto right) so.grid ∙ corner_and_strip s.width s.height (pixel (shaped old s)) square upto right more;
    outside = outside_trans (shaped old s) (shaped now s) (shaped new s) so.outside strip.outside;
  }

  -- all strips
  pub all_strips : s.height ≤ upto → Becomes s old now (transposed (shaped_grid old s))
  unfolding grid_of
  all_strips all = record {
    grid = so.grid ∙ whole_corner s.width s.height (pixel (shaped old s)) square upto (omega (arith, square, all));
    outside = so.outside;
  }
