-- The marks of a fitting size choose its pixels.
use Rattle.std.proofs.Common.{◌≡◌, ℕ, zero, suc, ◌+◌, ◌-◌, ◌*◌, ◌<◌, ◌≤◌, ◌^◌, Bool, true, false, List, [], ◌∷◌, ◌++◌, length, take, drop, replicate, map, refl, sym, ap, ◌∙◌, arith, cond, length-drop, drop-drop, ap₂, zero-mul, mul-le-mul_left, mul-le-mul_right, ◌==◌}
use Rattle.std.specs.List.{flat_map, range_with_len}
use Rattle.std.proofs.lemmas.Bool.Decides.{nat_tests}
use Rattle.image_model.specs.Layout.{Layout, layout, Reaches, Fits}
use Rattle.image_model.specs.Rows.{row, pixels}
use Rattle.image_model.proofs.Rows.{HasRows, joined_is, row_is, row_empty, rows_from_fits, length-joined_rows, grid_joined_rows_of}
use Rattle.image_pixels.specs.Marks.{pick, marks, marks_of, rows_from, first_row, rows_after}
use Rattle.image_pixels.specs.Pixels.{ArePixels}
use Rattle.image_pixels.proofs.Marks.{all_false, pick_none}

module _ {X : Type 0} where
  -- where the next n cells are marked, these come first
  pick_row : (n : ℕ) (ms : List Bool) (xs : List X) → pick (replicate n true ++ ms) xs ≡ take n xs ++ pick ms (drop n xs)
  pick_row zero ms xs = refl
  pick_row (suc n) ms [] = sym (pick_none ms)
  pick_row (suc n) ms (x ∷ xs) = ap (λ zs. x ∷ zs) (pick_row n ms xs)

module _ {X : Type 0} (l : Layout X) (wide : l.width ≤ l.stride) where
  -- n rows from row y on
  abbrev joined_from : ℕ → ℕ → List X
  joined_from y n = flat_map (λ r. r) (map (row l) (range_with_len y n))

  -- the marks of the further rows choose these rows
  rows_picked : (n y p : ℕ) → p + (l.stride - l.width) ≡ y * l.stride → HasRows l (y + n) → pick (rows_from n l.width (l.stride - l.width)) (drop p l.cells) ≡ joined_from y n
  rows_picked zero y p at has = refl
  rows_picked (suc n) y p at has =
      let pad : ℕ = l.stride - l.width in
      let whole : y * l.stride + l.width ≤ length l.cells = has y (omega arith) in
      let next : y * l.stride + l.width + pad ≡ (y + 1) * l.stride = omega arith in
      let rest : HasRows l (y + 1 + n) = λ k below. has k (omega arith) in
      all_false pad (replicate l.width true ++ rows_from n l.width pad) (drop p l.cells) (omega (arith, length-drop p l.cells))
      ∙ ap (λ xs. pick (replicate l.width true ++ rows_from n l.width pad) xs) (drop-drop pad p l.cells ∙ ap (λ k. drop k l.cells) at)
      ∙ pick_row l.width (rows_from n l.width pad) (drop (y * l.stride) l.cells)
      ∙ ap (λ xs. xs ++ pick (rows_from n l.width pad) (drop l.width (drop (y * l.stride) l.cells))) (sym (row_is l y whole))
      ∙ ap (λ xs. row l y ++ pick (rows_from n l.width pad) xs) (drop-drop l.width (y * l.stride) l.cells)
      ∙ ap (λ xs. row l y ++ xs) (rows_picked n (y + 1) (y * l.stride + l.width) next rest)

-- ---- the marks of a size

pub some_first : (w h : ℕ) → first_row w (suc h) ≡ w
some_first w h = let some : (suc h == 0) ≡ false = grind (arith, nat_tests) in ap (λ b. cond b 0 w) some

pub some_after : (w h : ℕ) → rows_after (suc w) h ≡ h - 1
some_after w h = let some : (suc w == 0) ≡ false = grind (arith, nat_tests) in ap (λ b. cond b 0 (h - 1)) some

-- the marks of a size reach no further than the cells that fit it
pub marks_reach : (count w h s : ℕ) → Reaches count w h s → w ≤ s → first_row w h + rows_after w h * ((s - w) + w) ≤ count
marks_reach count zero zero s fits wide = omega arith
marks_reach count zero (suc h) s fits wide = omega (arith, some_first zero h)
marks_reach count (suc w) zero s fits wide = rw (some_after w zero) (omega (arith, zero-mul (s - suc w + suc w)))
marks_reach count (suc w) (suc h) s fits wide =
    let back : s - suc w + suc w ≡ s = omega arith in
    rw (some_first (suc w) h, some_after w (suc h), back) (omega (arith, fits (omega arith) (omega arith)))

-- further rows are marked only where there is a column
pub rows_wide : (w h : ℕ) → 0 < rows_after w h → 0 < w
rows_wide zero h some = omega (arith, some)
rows_wide (suc w) h some = omega arith

-- the marked cells of a fitting size are its pixels
pub marked_pixels : {X : Type 0} (cells : List X) (w h s : ℕ) → Fits (layout cells w h s) → w ≤ s → pick (marks_of w h s) cells ≡ pixels (layout cells w h s)
marked_pixels cells zero zero s fits wide = refl
marked_pixels {X} cells zero (suc h) s fits wide = ap (λ n. pick (marks n 0 0 (s - 0)) cells) (some_first zero h) ∙ sym (joined_is cells zero (suc h) s ∙ row_empty cells (suc h) s (suc h))
marked_pixels cells (suc w) zero s fits wide = ap (λ n. pick (marks 0 n (suc w) (s - suc w)) cells) (some_after w zero) ∙ sym (joined_is cells (suc w) zero s)
marked_pixels {X} cells (suc w) (suc h) s fits wide =
    let l : Layout X = layout cells (suc w) (suc h) s in
    let has : HasRows l (suc h) = rows_from_fits l fits (omega arith) in
    let least : suc h - 1 ≡ h = omega arith in
    let none : 0 * s ≡ 0 = omega arith in
    let first : row l 0 ≡ take (suc w) cells = row_is l 0 (has 0 (omega arith)) ∙ ap (λ k. take (suc w) (drop k cells)) none in
    ap₂ (λ n m. pick (marks n m (suc w) (s - suc w)) cells) (some_first (suc w) h) (some_after w (suc h) ∙ least)
    ∙ pick_row (suc w) (rows_from h (suc w) (s - suc w)) cells
    ∙ ap (λ xs. xs ++ pick (rows_from h (suc w) (s - suc w)) (drop (suc w) cells)) (sym first)
    ∙ ap (λ xs. row l 0 ++ xs) (rows_picked l wide h 1 (suc w) (omega arith) (λ y below. has y (omega arith)))
    ∙ sym (joined_is cells (suc w) (suc h) s)

-- ---- a cursor over a whole layout

-- a size within the limits has a countable number of places
pub area_fits : (w h : ℕ) → w < 2 ^ 32 → h < 2 ^ 32 → w * h < 2 ^ 64
area_fits w h wide high = omega (arith, mul-le-mul_right h (let le : w ≤ 4294967295 = omega arith in le), mul-le-mul_left 4294967295 (let le : h ≤ 4294967295 = omega arith in le))

-- the numbers that a cursor over a whole layout begins with
module _ {X : Type 0} (l : Layout X) (remaining rows width pad : ℕ) (narrow : l.width ≤ l.stride) (el : remaining ≡ first_row l.width l.height) (er : rows ≡ rows_after l.width l.height) (ew : width ≡ l.width) (ep : pad ≡ l.stride - l.width) where
  pub start_marks : marks remaining rows width pad ≡ marks_of l.width l.height l.stride
  start_marks = λ i. marks (el i) (er i) (ew i) (ep i)

  pub start_reaches : Fits l → remaining + rows * (pad + width) ≤ length l.cells
  start_reaches fits = rw (el, er, ew, ep) (marks_reach (length l.cells) l.width l.height l.stride fits narrow)

  -- choose its pixels
  pub start_pixels : (xs : List X) → Fits l → l.width < 2 ^ 32 → l.height < 2 ^ 32 → xs ≡ pick (marks remaining rows width pad) l.cells → ArePixels l xs
  start_pixels xs fits small_width small_height e =
      let same : xs ≡ pixels l = e ∙ ap (λ ms. pick ms l.cells) start_marks ∙ marked_pixels l.cells l.width l.height l.stride fits narrow in
      let count : length xs ≡ l.width * l.height = ap length same ∙ length-joined_rows l.cells l.width l.height l.stride fits in
      record { pixels = same; grid = same ∙ sym (grid_joined_rows_of l); count = count; countable = omega (arith, count, area_fits l.width l.height small_width small_height) }
