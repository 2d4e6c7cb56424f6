-- A tiling by the tile column and the tile row of its next window.
use Rattle.std.proofs.lemmas.Bool.Decides.{nat_tests}
use Rattle.std.proofs.lemmas.List.{places, drop_more, drop_all}
use Rattle.std.proofs.Common.{◌≡◌, ℕ, ◌+◌, ◌-◌, ◌*◌, ◌<◌, ◌≤◌, true, false, inl, inr, List, [], ◌∷◌, drop, length, length-drop, Option, Some, None, sym, ap, ◌∙◌, subst, arith, if◌then◌else◌, ◌^◌, IfSome}
use Rattle.std.specs.List.{slice_get}
use Rattle.std.specs.Option.{SomeIff}
use Rattle.std.proofs.lemmas.Bool.{cases_lt, cond-true, cond-false, lt-ltb, ltb-true, false_from_ne_true}
use Rattle.std.proofs.lemmas.Option.{slice_get_within, get_or_from_slice_get, none-some}
use Rattle.std.proofs.Math.Nat.{suc-mul, add-mul, mul-le-mul}
use Rattle.image_model.specs.Grid.{is_place}
use Rattle.image_model.specs.Windows.{Window, IsInside}
use Rattle.image_model.specs.Tiles.{tile_count, tile, tiles}
use Rattle.image_model.proofs.Grids.{is_place_decides}
use Rattle.image_model.proofs.Tiles.{tile_begins, tile_at, length-tiles}
use Rattle.image_tiles.specs.declared.tiling.Tiling.{Tiling}
use Rattle.image_tiles.specs.Tiling.{windows_left, has_tile, tile_now, stepped}

module _ (width height tile_width tile_height : ℕ) (wide : 0 < tile_width) (high : 0 < tile_height) where
  abbrev all : List Window
  all = tiles width height tile_width tile_height

  -- what is left from a tile column of a tile row on
  abbrev left_at : ℕ → ℕ → ℕ → ℕ → List Window
  left_at tile_columns tile_rows tile_column tile_row = if is_place tile_columns tile_rows tile_column tile_row then drop (tile_row * tile_columns + tile_column) all else []

  module _ (tile_columns tile_rows : ℕ) (tile_columns_are : tile_columns ≡ tile_count tile_width width) (tile_rows_are : tile_rows ≡ tile_count tile_height height) where
    length-all : length all ≡ tile_rows * tile_columns
    length-all = length-tiles width height tile_width tile_height wide high ∙ ap (λ c. tile_count tile_height height * c) (sym tile_columns_are) ∙ ap (λ l. l * tile_columns) (sym tile_rows_are)

    -- at the first tile all are left
    pub all_left : left_at tile_columns tile_rows 0 0 ≡ all
    all_left = grind (arith, cond-true, is_place_decides, length-all, drop_all)

    module _ (tile_column tile_row : ℕ) (here : is_place tile_columns tile_rows tile_column tile_row ≡ true) where
      abbrev k : ℕ
      k = tile_row * tile_columns + tile_column

      abbrev it : Window
      it = tile width height tile_width tile_height tile_column tile_row

      abbrev in_tile_column : tile_column < tile_columns
      in_tile_column = ((is_place_decides tile_columns tile_rows tile_column tile_row).0 here).0

      abbrev in_tile_row : tile_row < tile_rows
      in_tile_row = ((is_place_decides tile_columns tile_rows tile_column tile_row).0 here).1

      counted_tile_column : tile_column < tile_count tile_width width
      counted_tile_column = subst (λ n. tile_column < n) tile_columns_are in_tile_column

      counted_tile_row : tile_row < tile_count tile_height height
      counted_tile_row = subst (λ n. tile_row < n) tile_rows_are in_tile_row

      -- its corner lies within the size
      pub begins : (tile_column * tile_width < width) × (tile_row * tile_height < height)
      begins = (tile_begins tile_width width tile_column wide counted_tile_column, tile_begins tile_height height tile_row high counted_tile_row)

      pub inside : IsInside width height it
      inside = (omega (arith, begins.0), omega (arith, begins.1))

      there : slice_get all k ≡ Some it
      there = ap (λ c. slice_get all (tile_row * c + tile_column)) tile_columns_are ∙ tile_at width height tile_width tile_height wide high tile_column tile_row counted_tile_column counted_tile_row

      off : drop k all ≡ it ∷ drop (k + 1) all
      off = drop_more all k it (slice_get_within all k it there) ∙ ap (λ w. w ∷ drop (k + 1) all) (get_or_from_slice_get all k it it there)

      -- it is the first of those that are left
      first : left_at tile_columns tile_rows tile_column tile_row ≡ it ∷ drop (k + 1) all
      first = cond-true (is_place tile_columns tile_rows tile_column tile_row) _ _ here ∙ off

      -- so many are left
      pub count : length (left_at tile_columns tile_rows tile_column tile_row) ≡ (tile_rows - tile_row - 1) * tile_columns + (tile_columns - tile_column)
      count = grind (arith, places, nat_tests, cond-true, length-drop, length-all, add-mul, suc-mul)

      -- with a tile column after it, the next tile is there
      pub right : tile_column + 1 < tile_columns → left_at tile_columns tile_rows tile_column tile_row ≡ it ∷ left_at tile_columns tile_rows (tile_column + 1) tile_row
      right more = grind (arith, first, cond-true, is_place_decides)

      -- after the last tile column it is the first one of the tile row below
      pub down : tile_columns ≤ tile_column + 1 → left_at tile_columns tile_rows tile_column tile_row ≡ it ∷ left_at tile_columns tile_rows 0 (tile_row + 1)
      down last = grind (arith, suc-mul, first, cond-true, is_place_decides, cond-false, false_from_ne_true, drop_all, length-all)

-- the windows that are left are the next one and those after it
pub goes_on : (t : Tiling) → has_tile t ≡ true → windows_left t ≡ tile_now t ∷ windows_left (stepped t)
unfolding windows_left
goes_on t here = grind (arith, lt-ltb, right, cond-true, false_from_ne_true, ltb-true, down, cond-false)

-- where none is left, the list is empty
pub at_end : (t : Tiling) → has_tile t ≡ false → windows_left t ≡ []
unfolding windows_left
at_end t none = cond-false (has_tile t) _ _ none

-- ---- how many are left

-- so many are left: those of the tile rows below, and the others of this tile row
pub counted : (t : Tiling) → has_tile t ≡ true → length (windows_left t) ≡ (t.tile_rows - t.tile_row - 1) * t.tile_columns + (t.tile_columns - t.tile_column)
unfolding windows_left
counted t here = count t.width t.height t.tile_width t.tile_height t.wide t.high t.tile_columns t.tile_rows t.tile_columns_are t.tile_rows_are t.tile_column t.tile_row here

-- a checked sum is the number of the list where it fits
pub sum_is : (o : Option ℕ) (n m len : ℕ) → SomeIff o (n + m < 2 ^ 64) (n + m) → len ≡ n + m → IfSome o (λ k. k ≡ len)
sum_is None n m len so is = tt
sum_is (Some k) n m len so is = so.1 ∙ sym is

pub sum_past : (o : Option ℕ) (n m len : ℕ) → SomeIff o (n + m < 2 ^ 64) (n + m) → len ≡ n + m → o ≡ None → 2 ^ 64 ≤ len
sum_past None n m len so is none = elim (cases_lt (n + m) (2 ^ 64)) [ inl below ↦ absurd (so below) | inr past ↦ omega (arith, past, is) ]
sum_past (Some k) n m len so is none = absurd (none-some k (sym none))

-- no more are left than there are
pub few_left : (t : Tiling) → length (windows_left t) ≤ t.tile_rows * t.tile_columns
unfolding windows_left
few_left t = grind (arith, length-all, length-drop)

-- those of a size below 2 ^ 32 can be counted
pub countable : (t : Tiling) → t.width < 2 ^ 32 → t.height < 2 ^ 32 → length (windows_left t) < 2 ^ 64
countable t narrow low = grind (arith, mul-le-mul, few_left)

-- where some are left, the next one is
pub some_left : (t : Tiling) → 0 < length (windows_left t) → has_tile t ≡ true
unfolding windows_left
some_left t some = grind arith
