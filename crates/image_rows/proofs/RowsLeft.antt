-- The rows of a list of cells, taken off at either end.
use Rattle.std.proofs.Common.{◌≡◌, ℕ, zero, suc, ◌+◌, ◌-◌, ◌*◌, ◌<◌, ◌≤◌, List, [], ◌∷◌, ◌++◌, All, length, get_or, take, drop, map, refl, sym, ap, subst, ◌∙◌, arith, suc-mul, ◌^◌, ap₂}
use Rattle.std.specs.List.{range_with_len}
use Rattle.std.proofs.Math.Nat.{mul-le-mul_right}
use Rattle.std.proofs.lemmas.List.{drop-drop, drop-take, take-take, take_all, length-drop}
use Rattle.std.proofs.iter.Next.{firm}
use Rattle.std.proofs.lemmas.List.Elements.{All-map}
use Rattle.std.proofs.lemmas.List.FromFn.{map-range_with_len_more, length-range_with_len, get_or-range_with_len}
use Rattle.image_model.specs.Layout.{Layout, Fits, layout}
use Rattle.image_rows.specs.Rows.{AreRows}
use Rattle.image_model.specs.Rows.{row, rows, row_count}
use Rattle.image_model.proofs.Tables.{map_along}
use Rattle.image_model.proofs.Rows.{row_stretch, row_count-wide, some_column, row_count-le, length-row, length-rows, rows_from_fits, grid_rows_of}

counted_twice : (w h : ℕ) → row_count w (row_count w h) ≡ row_count w h
counted_twice zero h = refl
counted_twice (suc w) h = row_count-wide (suc w) (row_count (suc w) h) (omega arith)

pub suc_times : (n s : ℕ) → 0 < n → n * s ≡ (n - 1) * s + s
suc_times zero s some = absurd (omega (arith, some))
suc_times (suc n) s some = let e : n ≡ suc n - 1 = omega arith in suc-mul n s ∙ ap (λ k. k * s + s) e

-- with a column the rows are as many as the height says
tabulated : {T : Type 0} (cells : List T) (w s n : ℕ) → 0 < w → rows (layout cells w n s) ≡ map (row (layout cells w n s)) (range_with_len 0 n)
tabulated cells w s n wide = ap (λ k. map (row (layout cells w n s)) (range_with_len 0 k)) (row_count-wide w n wide)

module _ {T : Type 0} (cells : List T) (w s : ℕ) where
  -- of height 0 there is no row
  pub rows_none : (n : ℕ) → n ≡ 0 → rows (layout cells w n s) ≡ []
  rows_none n none = let e : row_count w n ≡ 0 = omega (arith, row_count-le w n) in ap (λ k. map (row (layout cells w n s)) (range_with_len 0 k)) e

  -- the first row comes off, and any further rows lie a stride on
  pub rows_first : (n : ℕ) (rest : List T) → 0 < w → 0 < n → (1 < n → rest ≡ drop s cells) → rows (layout cells w n s) ≡ take w cells ∷ rows (layout rest w (n - 1) s)
  rows_first n rest wide some further =
      let more : n ≡ suc (n - 1) = omega arith in
      let first : row (layout cells w n s) 0 ≡ take w cells = row_stretch (layout cells w n s) 0 ∙ (let e : 0 * s ≡ 0 = omega arith in ap (λ k. take w (drop k cells)) e) in
      let others = map_along (row (layout cells w n s)) (row (layout rest w (n - 1) s)) 1 0 (n - 1) (λ k below.
      let e : (1 + k) * s ≡ s + (0 + k) * s = omega arith in
      row_stretch (layout cells w n s) (1 + k)
      ∙ ap (λ j. take w (drop j cells)) e
      ∙ ap (take w) (sym (drop-drop ((0 + k) * s) s cells))
      ∙ ap (λ xs. take w (drop ((0 + k) * s) xs)) (sym (further (omega arith)))
      ∙ sym (row_stretch (layout rest w (n - 1) s) (0 + k))) in
      tabulated cells w s n wide
      ∙ ap (λ k. map (row (layout cells w n s)) (range_with_len 0 k)) more
      ∙ ap₂ (λ x xs. x ∷ xs) first (others ∙ sym (tabulated rest w s (n - 1) wide))

  -- the last row comes off
  pub rows_last : (n : ℕ) → 0 < w → 0 < n → rows (layout cells w n s) ≡ rows (layout cells w (n - 1) s) ++ take w (drop ((n - 1) * s) cells) ∷ []
  rows_last n wide some =
      let more : n ≡ n - 1 + 1 = omega arith in
      tabulated cells w s n wide
      ∙ ap (λ k. map (row (layout cells w n s)) (range_with_len 0 k)) more
      ∙ map-range_with_len_more (row (layout cells w n s)) 0 (n - 1) (n - 1) (omega arith)
      ∙ ap₂ (λ xs x. xs ++ x ∷ []) (sym (tabulated cells w s (n - 1) wide)) (row_stretch (layout cells w n s) (n - 1))

  -- the rows of a width that is 0 may be counted as none
  pub rows_counted : (n : ℕ) → rows (layout cells w (row_count w n) s) ≡ rows (layout cells w n s)
  rows_counted n = ap (λ k. map (row (layout cells w n s)) (range_with_len 0 k)) (counted_twice w n)

  -- the rows lie within the cells up to the end of the last one
  pub rows_within : (n b : ℕ) → (0 < n → (n - 1) * s + w ≤ b) → rows (layout (take b cells) w n s) ≡ rows (layout cells w n s)
  rows_within n b within = map_along (row (layout (take b cells) w n s)) (row (layout cells w n s)) 0 0 (row_count w n) (λ j below.
      let k : ℕ = 0 + j in
      let line : k ≤ n - 1 = omega (arith, row_count-le w n) in
      let end : k * s + w ≤ b = omega (arith, within (omega (arith, row_count-le w n)), mul-le-mul_right s line) in
      let e : b ≡ k * s + (b - k * s) = omega arith in
      row_stretch (layout (take b cells) w n s) k
      ∙ ap (λ i. take w (drop (k * s) (take i cells))) e
      ∙ ap (take w) (drop-take (k * s) (b - k * s) cells)
      ∙ take-take w (b - k * s) (drop (k * s) cells) (omega arith)
      ∙ sym (row_stretch (layout cells w n s) k))

  -- as many rows as the height says, if there is a column
  pub length-rows_left : (n : ℕ) → (0 < n → 0 < w) → length (rows (layout cells w n s)) ≡ n
  length-rows_left zero some = ap length (rows_none 0 refl)
  length-rows_left (suc n) some = length-rows (layout cells w (suc n) s) ∙ row_count-wide w (suc n) (some (omega arith))

-- the rows after cells that are skipped
module _ {T : Type 0} (cells : List T) (skip w s n : ℕ) (wide : 0 < w) (some : 0 < n) (narrow : w ≤ s) where
  -- the first row comes off, and the padding after it is skipped next
  pub first_off : rows (layout (drop skip cells) w n s) ≡ drop skip (take (skip + w) cells) ∷ rows (layout (drop (s - w) (drop (skip + w) cells)) w (n - 1) s)
  first_off =
      let on : w + (s - w) ≡ s = omega arith in
      let rest : List T = drop (s - w) (drop (skip + w) cells) in
      rows_first (drop skip cells) w s n rest wide some (λ _. ap (drop (s - w)) (sym (drop-drop w skip cells)) ∙ drop-drop (s - w) w (drop skip cells) ∙ ap (λ k. drop k (drop skip cells)) on)
      ∙ ap (λ row. row ∷ rows (layout rest w (n - 1) s)) (sym (drop-take skip w cells))

  -- the last row comes off, and the cells before it stay
  pub last_off : rows (layout (drop skip cells) w n s) ≡ rows (layout (drop skip (take (skip + (n - 1) * s) cells)) w (n - 1) s) ++ take w (drop (skip + (n - 1) * s) cells) ∷ []
  last_off =
      let before : ℕ = (n - 1) * s in
      let earlier = rows_within (drop skip cells) w s (n - 1) before (λ more. omega (arith, narrow, suc_times (n - 1) s more)) in
      rows_last (drop skip cells) w s n wide some
      ∙ ap₂ (λ xs x. xs ++ take w x ∷ []) (sym earlier ∙ ap (λ xs. rows (layout xs w (n - 1) s)) (sym (drop-take skip before cells))) (drop-drop before skip cells)

wide_row : {T : Type 0} (l : Layout T) → Fits l → (y : ℕ) → y < row_count l.width l.height → length (row l y) ≡ l.width
wide_row l fits y below = grind (arith, some_column, length-row, rows_from_fits, row_count-le)

-- each row of a fitting layout is as long as it is wide
rows_wide : {T : Type 0} (l : Layout T) → Fits l → All (λ r. length r ≡ l.width) (rows l)
rows_wide l fits =
    let n : ℕ = row_count l.width l.height in
    All-map (λ r. length r ≡ l.width) (row l) (range_with_len 0 n) (λ k d below.
    let number : k < n = omega (arith, length-range_with_len 0 n) in
    let at : get_or (range_with_len 0 n) k d ≡ k = omega (arith, get_or-range_with_len 0 n k d number) in
    ap (λ y. length (row l y)) at ∙ wide_row l fits k number)

-- what is said of the rows of a whole layout
pub are_rows : {T : Type 0} (l : Layout T) (left : List (List T)) → left ≡ rows l → row_count l.width l.height < 2 ^ 32 → Fits l → AreRows l left
are_rows l left are small fits =
    let count : length left ≡ row_count l.width l.height = ap length are ∙ length-rows l in
    record { rows = are; grid = are ∙ sym (grid_rows_of l); count = count; countable = omega (arith, count, small); lengths = subst (All (λ r. length r ≡ l.width)) (sym are) (rows_wide l fits) }

-- what the proofs of iterators go by: how many rows are left, and a row that comes off at either end
pub ruleset counting = (length-rows_left)

pub ruleset ends = (rows_first, rows_last, length-rows_left, take_all, length-drop, firm)
