-- The tiles of a size, by their numbers: each is inside, and each place lies in exactly one.
use Rattle.std.proofs.Common.{◌≡◌, ℕ, zero, suc, ◌+◌, ◌-◌, ◌*◌, ◌/◌, ◌%◌, ◌<◌, ◌≤◌, true, List, [], ◌∷◌, ◌++◌, length, Some, refl, sym, ap, ◌∙◌, subst, arith, min, length-append, IsTrue, Option, None}
use Rattle.std.specs.Option.{IsSomeAnd}
use Rattle.std.specs.List.{All, slice_get, flat_map, range_with_len}
use Rattle.std.proofs.lemmas.Bool.{and_from, le-leb}
use Rattle.std.proofs.lemmas.List.Elements.{All-tail}
use Rattle.std.proofs.lemmas.Nat.{div-add-mod', mod_below, div_below}
use Rattle.std.proofs.lemmas.List.FromFn.{length-map-range_with_len}
use Rattle.std.proofs.lemmas.Option.{slice_get_within, slice_get-get_or, same_Some}
use Rattle.std.proofs.Math.Nat.{suc-mul}
use Rattle.image_model.specs.Windows.{Window, IsInside}
use Rattle.image_model.specs.Tiles.{tile_count, tile, tile_line, tiles, are_inside, tile_start, has_place, EachPlaceInOne}
use Rattle.image_model.proofs.Cells.{slice_get-append_left, slice_get-append_right}
use Rattle.image_model.proofs.Grids.{covers_decides}
use Rattle.image_model.proofs.Rows.{slice_get-tabulated}

-- ---- along one side

-- a tile that is counted begins below the length
pub tile_begins : (size len i : ℕ) → 0 < size → i < tile_count size len → i * size < len
tile_begins size len i some counted = grind arith

-- and one that begins below it is counted
pub tile_counted : (size len i : ℕ) → 0 < size → i * size < len → i < tile_count size len
tile_counted size len i some begins = grind arith

-- a tile begins at or before each of its places
pub tile_start-is : (size x : ℕ) → x / size * size ≡ tile_start size x
tile_start-is size x = let parts = div-add-mod' x size in omega (arith, parts)

-- the tile that a number lies in
in_its_tile : (size len x : ℕ) → 0 < size → x < len → (x / size * size ≤ x) × (x < x / size * size + min size (len - x / size * size))
in_its_tile size len x some below = grind arith

-- no other has it
its_tile : (size len i x : ℕ) → i * size ≤ x → x < i * size + min size (len - i * size) → i ≡ x / size
its_tile size len i x from to = grind arith

-- ---- lists of lists of one length

module _ {X : Type 0} (f : ℕ → List X) (w : ℕ) (each : (y : ℕ) → length (f y) ≡ w) where
  -- item x of list y
  in_lines : (a n x y : ℕ) → x < w → y < n → slice_get (flat_map f (range_with_len a n)) (y * w + x) ≡ slice_get (f (a + y)) x
  in_lines a (suc n) x (suc y) column line =
      let next : suc y * w + x ≡ w + (y * w + x) = omega (arith, suc-mul y w) in
      let same : a + 1 + y ≡ a + suc y = omega arith in
      ap (slice_get (f a ++ flat_map f (range_with_len (a + 1) n))) next
      ∙ slice_get-append_right (f a) (flat_map f (range_with_len (a + 1) n)) w (y * w + x) (each a)
      ∙ in_lines (a + 1) n x y column (omega arith)
      ∙ ap (λ b. slice_get (f b) x) same
  in_lines a _ x _ column line = grind (arith, slice_get-append_left)

  length-lines : (a n : ℕ) → length (flat_map f (range_with_len a n)) ≡ n * w
  length-lines a zero = omega arith
  length-lines a (suc n) = omega (arith, length-append (f a) (flat_map f (range_with_len (a + 1) n)), each a, length-lines (a + 1) n, suc-mul n w)

module _ (width height tile_width tile_height : ℕ) (wide : 0 < tile_width) (high : 0 < tile_height) where
  -- how many tiles are in a line, and how many lines there are
  abbrev columns : ℕ
  columns = tile_count tile_width width

  abbrev lines : ℕ
  lines = tile_count tile_height height

  abbrev at : ℕ → ℕ → Window
  at i j = tile width height tile_width tile_height i j

  abbrev all : List Window
  all = tiles width height tile_width tile_height

  length-line : (j : ℕ) → length (tile_line width height tile_width tile_height j) ≡ columns
  length-line j = length-map-range_with_len (λ i. at i j) 0 columns

  pub length-tiles : length all ≡ lines * columns
  length-tiles = length-lines (tile_line width height tile_width tile_height) columns length-line 0 lines

  -- the tile in column i of line j by its number
  pub tile_at : (i j : ℕ) → i < columns → j < lines → slice_get all (j * columns + i) ≡ Some (at i j)
  tile_at i j column line = grind (arith, slice_get-tabulated, in_lines, length-line)

  -- each number below their count is that of a tile
  pub tile_number : (k : ℕ) (w : Window) → slice_get all k ≡ Some w → (k % columns < columns) × (k / columns < lines) × (w ≡ at (k % columns) (k / columns))
  tile_number k w is =
      let below : k < lines * columns = omega (arith, slice_get_within all k w is, length-tiles) in
      let some : 0 < columns = positive k lines columns below in
      let column = mod_below k columns some in
      let line = div_below k columns lines some below in
      (column, line, same_Some w (at (k % columns) (k / columns)) (sym is ∙ sym (ap (slice_get all) (div-add-mod' k columns)) ∙ tile_at (k % columns) (k / columns) column line))
    where
      positive : (k m n : ℕ) → k < m * n → 0 < n
      positive k m zero h = absurd (omega arith)
      positive k m (suc n) h = omega arith

  -- ---- each tile is inside

  inside_at : (i j : ℕ) → i < columns → j < lines → IsInside width height (at i j)
  inside_at i j column line = grind arith

  pub tiles_inside : All (IsInside width height) all
  tiles_inside k d below = grind (arith, slice_get-get_or, tile_number)

  -- ---- each place lies in exactly one tile

  tile_of_place : (x y : ℕ) → x < width → y < height → slice_get all (y / tile_height * columns + x / tile_width) ≡ Some (at (x / tile_width) (y / tile_height))
  tile_of_place x y column line = grind (arith, tile_counted, tile_at)

  tile_has_place : (x y : ℕ) → x < width → y < height → has_place (at (x / tile_width) (y / tile_height)) x y ≡ true
  tile_has_place x y column line = grind arith

  only_tile : (x y k : ℕ) (w : Window) → slice_get all k ≡ Some w → has_place w x y ≡ true → k ≡ y / tile_height * columns + x / tile_width
  only_tile x y k w is has =
      let found = tile_number k w is in
      let i : ℕ = k % columns in
      let j : ℕ = k / columns in
      let here : has_place (at i j) x y ≡ true = subst (λ v. has_place v x y ≡ true) found.2 has in
      let c = (covers_decides (at i j).left (at i j).top (at i j).width (at i j).height x y).0 here in
      let same_i = its_tile tile_width width i x c.0 c.2 in
      let same_j = its_tile tile_height height j y c.1 c.3 in
      sym (div-add-mod' k columns) ∙ ap (λ n. n * columns + i) same_j ∙ ap (λ n. y / tile_height * columns + n) same_i

  pub tiles_cover : EachPlaceInOne width height all
  tiles_cover x y column line = record {
    number = y / tile_height * columns + x / tile_width;
    there = subst (λ o. IsSomeAnd o (λ w. IsTrue (has_place w x y))) (sym (tile_of_place x y column line)) (tile_has_place x y column line);
    alone = λ k there. alone k (slice_get all k) refl there;
  }
    where
      alone : (k : ℕ) (o : Option Window) → slice_get all k ≡ o → IsSomeAnd o (λ w. IsTrue (has_place w x y)) → k ≡ y / tile_height * columns + x / tile_width
      alone k (Some w) is has = only_tile x y k w is has
      alone k None is has = absurd has

-- windows that are inside one by one, for a loop over them
pub all_inside : (width height : ℕ) (windows : List Window) → All (IsInside width height) windows → are_inside width height windows ≡ true
all_inside width height [] each = refl
all_inside width height (w ∷ windows) each =
    let here = each 0 w (omega arith) in
    and_from _ _ (and_from _ _ (le-leb (w.left + w.width) width here.0) (le-leb (w.top + w.height) height here.1)) (all_inside width height windows (All-tail (IsInside width height) w windows each))
