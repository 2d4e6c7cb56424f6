-- Sums of the pixels of a grid: one column and one row more, and their bounds.
use Rattle.std.proofs.Common.{zero, suc, ◌≡◌, ◌≢◌, ℕ, ◌+◌, ◌-◌, ◌*◌, ◌^◌, ◌<◌, ◌≤◌, ◌==◌, inl, ⊎_elim, if◌then◌else◌, List, [], ◌∷◌, ◌++◌, map, sum, Option, Some, None, unwrap_or, refl, sym, ap, ◌∙◌, subst, arith, add-one, add-zero}
use Rattle.std.proofs.Math.Nat.{mul-le-mul}
use Rattle.std.proofs.lemmas.Bool.{cond-true, cond-false}
use Rattle.std.proofs.lemmas.Bool.Decides.{eqb_tells}
use Rattle.std.specs.List.{filter_map, flat_map, range_with_len}
use Rattle.std.proofs.lemmas.List.{append-nil, map-id}
use Rattle.std.proofs.lemmas.List.Concat.{flat_map-append}
use Rattle.std.proofs.lemmas.List.Elements.{filter_map-append}
use Rattle.std.proofs.lemmas.List.FromFn.{map-range_with_len_more}
use Rattle.std.proofs.lemmas.List.Sums.{sum_by-append}
use Rattle.image_model.specs.Layout.{Layout}
use Rattle.image_model.specs.Grid.{Grid, grid_of, view, shown}
use Rattle.image_model.specs.Rows.{grid_row}
use Rattle.image_model.specs.Sums.{area_at, area_sum, line_sum}
use Rattle.image_model.specs.Tables.{table_upto}
use Rattle.image_model.specs.Ranges.{AreBelow}
use Rattle.image_model.proofs.Patches.{in_view}
use Rattle.image_model.proofs.Rows.{filter_map-same, map-same, row_count-wide}
use Rattle.image_model.proofs.Sweeps.{read_before}

-- one number more
range_more : (n : ℕ) → range_with_len 0 (n + 1) ≡ range_with_len 0 n ++ n ∷ []
range_more n = sym (map-id (range_with_len 0 (n + 1))) ∙ map-range_with_len_more (λ k. k) 0 n n (omega arith) ∙ ap (λ ks. ks ++ n ∷ []) (map-id (range_with_len 0 n))

-- the sum of what one place shows
sum_of_one : (f : ℕ → Option ℕ) (u : ℕ) → sum (filter_map f (u ∷ [])) ≡ unwrap_or (f u) 0
sum_of_one f u = by_content (f u) refl
  where
    by_content : (o : Option ℕ) → f u ≡ o → sum (filter_map f (u ∷ [])) ≡ unwrap_or (f u) 0
    by_content None is = rw is refl
    by_content (Some p) is = rw is (omega arith)

module _ (g : Grid ℕ) where
  -- ---- by the pixels of rows

  -- the first pixels of row y
  abbrev line : ℕ → ℕ → List ℕ
  line x y = filter_map (λ u. g.pixel u y) (range_with_len 0 x)

  -- those of the first rows, joined
  abbrev lines : ℕ → ℕ → List ℕ
  lines x n = flat_map (λ r. r) (map (line x) (range_with_len 0 n))

  line_one : (x y : ℕ) → sum (line (x + 1) y) ≡ sum (line x y) + shown g x y
  line_one x y =
      rw (range_more x, filter_map-append (λ u. g.pixel u y) (range_with_len 0 x) (x ∷ []), sum_by-append (λ p. p) (line x y) (filter_map (λ u. g.pixel u y) (x ∷ [])))
      (ap (λ n. sum (line x y) + n) (sum_of_one (λ u. g.pixel u y) x))

  lines_one : (x n : ℕ) → sum (lines x (n + 1)) ≡ sum (lines x n) + sum (line x n)
  lines_one x n =
      rw (map-range_with_len_more (line x) 0 n n (omega arith), flat_map-append (λ r. r) (map (line x) (range_with_len 0 n)) (line x n ∷ []), append-nil (line x n)) (sum_by-append (λ p. p) (lines x n) (line x n))

  no_line : (n : ℕ) → sum (lines 0 n) ≡ 0
  no_line zero = refl
  no_line (suc n) = subst (λ k. sum (lines 0 k) ≡ 0) (add-one n) (lines_one 0 n ∙ omega (arith, no_line n))

  -- a row of a view
  view_row : (top x h y : ℕ) → y < h → grid_row (view g 0 top x h) y ≡ line x (top + y)
  unfolding view
  view_row top x h y below = filter_map-same (λ u. (view g 0 top x h).pixel u y) (λ u. g.pixel u (top + y)) 0 x (λ u column. let on : 0 + u ≡ u = omega arith in in_view g 0 top x h u y (omega (arith, column)) below ∙ ap (λ i. g.pixel i (top + y)) on)

  area_is : (x y : ℕ) → area_sum g x y ≡ sum (lines x y)
  unfolding area_sum view
  area_is zero y = sym (no_line y)
  area_is (suc x) y =
      ap (λ n. sum (flat_map (λ r. r) (map (grid_row (view g 0 0 (suc x) y)) (range_with_len 0 n)))) (row_count-wide (suc x) y (omega arith))
      ∙ ap (λ rs. sum (flat_map (λ r. r) rs)) (map-same (grid_row (view g 0 0 (suc x) y)) (line (suc x)) 0 y (λ n below. let on : 0 + n ≡ n = omega arith in view_row 0 (suc x) y n (omega (arith, below)) ∙ ap (line (suc x)) on))

  line_is : (x y : ℕ) → line_sum g x y ≡ sum (line x y)
  unfolding line_sum view
  line_is zero y = refl
  line_is (suc x) y =
      ap (λ n. sum (flat_map (λ r. r) (map (grid_row (view g 0 y (suc x) 1)) (range_with_len 0 n)))) (row_count-wide (suc x) 1 (omega arith))
      ∙ ap (λ r. sum (r ++ [])) (view_row y (suc x) 1 0 (omega arith)) ∙ ap sum (append-nil (line (suc x) (y + 0))) ∙ ap (λ n. sum (line (suc x) n)) (add-zero y)

  -- ---- for a loop over places

  -- no pixel of a row
  pub line_none : (y : ℕ) → line_sum g 0 y ≡ 0
  line_none y = line_is 0 y

  -- one pixel more
  pub line_more : (x y : ℕ) → line_sum g (x + 1) y ≡ line_sum g x y + shown g x y
  line_more x y = line_is (x + 1) y ∙ line_one x y ∙ ap (λ n. n + shown g x y) (sym (line_is x y))

  -- no row, and no column
  pub area_none : (x : ℕ) → area_sum g x 0 ≡ 0
  area_none x = area_is x 0

  pub area_of_no_column : (y : ℕ) → area_sum g 0 y ≡ 0
  area_of_no_column y = area_is 0 y ∙ no_line y

  -- one row more
  pub area_more : (x y : ℕ) → area_sum g x (y + 1) ≡ area_sum g x y + line_sum g x y
  area_more x y = area_is x (y + 1) ∙ lines_one x y ∙ ap (λ n. n + sum (line x y)) (sym (area_is x y)) ∙ ap (λ n. area_sum g x y + n) (sym (line_is x y))

  -- one column more: the corners of a place
  pub area_corners : (x y : ℕ) → area_sum g (x + 1) (y + 1) + area_sum g x y ≡ area_sum g (x + 1) y + area_sum g x (y + 1) + shown g x y
  area_corners x y = omega (arith, area_more (x + 1) y, area_more x y, line_more x y)

  -- ---- bounds

  module _ (greatest : ℕ) (bounds : AreBelow (greatest + 1) g) where
    -- what a place shows
    pub shown_bound : (x y : ℕ) → shown g x y ≤ greatest
    shown_bound x y = by_content (g.pixel x y) refl
      where
        by_content : (o : Option ℕ) → g.pixel x y ≡ o → shown g x y ≤ greatest
        by_content None is = rw is (omega arith)
        by_content (Some p) is = rw is (omega (arith, bounds.each x y p is))

    -- a row
    pub line_bound : (x y : ℕ) → line_sum g x y ≤ greatest * x
    line_bound zero y = omega (arith, line_none y)
    line_bound (suc x) y = subst (λ n. line_sum g n y ≤ greatest * n) (add-one x) (grind (arith, line_more x y, shown_bound x y, line_bound x y))

    -- and rows
    pub area_bound : (x y : ℕ) → area_sum g x y ≤ greatest * (x * y)
    area_bound x zero = omega (arith, area_none x)
    area_bound x (suc y) = subst (λ n. area_sum g x n ≤ greatest * (x * n)) (add-one y) (grind (arith, area_more x y, line_bound x y, area_bound x y))

-- ---- while a loop writes the sums of areas

-- an earlier row has the sum above a place, and above the first one there is nothing
pub sum_above : (g : Grid ℕ) (l k : Layout ℕ) (x y : ℕ) → grid_of k ≡ table_upto (area_at g) x y (grid_of l) → x < l.width → y < l.height
    → (if y == 0 then 0 else shown (grid_of k) x (y - 1)) ≡ area_sum g (x + 1) y
sum_above g l k x y e column line = ⊎_elim
    (λ s. cond-true (y == 0) _ _ s.0 ∙ sym (area_none g (x + 1)) ∙ sym (ap (area_sum g (x + 1)) s.1))
    (λ o. let some : y ≢ 0 = o.1 in cond-false (y == 0) _ _ o.0
    ∙ ap (λ p. unwrap_or p 0) (read_before (area_at g) x y l k e x (y - 1) column (omega (arith, line)) (inl (omega (arith, some))))
    ∙ ap (area_sum g (x + 1)) (omega (arith, some)))
    (eqb_tells y 0)

-- so many bytes of a row are together at most 255 each
pub line_bytes : (g : Grid ℕ) (x y : ℕ) → AreBelow 256 g → line_sum g x y ≤ 255 * x
line_bytes g x y below = line_bound g 255 below x y

-- the sum of bytes at a place fits: what is above it, and its row up to it
pub sum_fits : (g : Grid ℕ) (l k : Layout ℕ) (width height x y above line byte : ℕ) → AreBelow 256 g → l.width ≡ width → l.height ≡ height → width * height < 2 ^ 56
    → grid_of k ≡ table_upto (area_at g) x y (grid_of l) → x < width → y < height → above ≡ (if y == 0 then 0 else shown (grid_of k) x (y - 1)) → line ≡ line_sum g x y → byte ≡ shown g x y
    → above + (line + byte) < 2 ^ 64
sum_fits g l k width height x y above line byte below wide high few e column row is_above is_line is_byte =
    let most : (x + 1) * (y + 1) ≤ width * height = mul-le-mul (omega (arith, column)) (omega (arith, row)) in
    omega (arith, is_above, is_line, is_byte, sum_above g l k x y e (omega (arith, column, wide)) (omega (arith, row, high)), line_more g x y, most, few, area_bound g 255 below (x + 1) (y + 1), area_more g (x + 1) y)

-- these laws, for a caller's `using`
pub ruleset sums = (line_none, line_more, area_none, area_more)

pub ruleset areas = (line_none, line_more, line_bytes, area_none, area_more, sum_above)
