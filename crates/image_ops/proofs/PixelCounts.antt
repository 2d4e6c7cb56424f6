-- Counts over the numbers of pixels, one after the other, and pixels of one cell.
use Rattle.std.proofs.Common.{◌≡◌, ℕ, zero, suc, ◌+◌, ◌*◌, ◌/◌, ◌<◌, ◌≤◌, Bool, true, false, cond, List, [], ◌∷◌, length, take, drop, get_or, refl, sym, ap, ◌∙◌, arith, count_by, sum_by}
use Rattle.std.specs.Cmp.Lexicographic.{pointwise}
use Rattle.std.specs.List.{range_with_len, flat_map}
use Rattle.std.proofs.lemmas.List.Sums.{count_by_more_yes, count_by_more_no, sum_by-append, sum_by-cons, sum_by_more}
use Rattle.std.proofs.lemmas.List.FromFn.{length-range_with_len, get_or-range_with_len}
use Rattle.std.proofs.Math.Seq.{take-length}
use Rattle.image_model.specs.Grid.{Grid}
use Rattle.image_model.specs.Rows.{grid_pixels, grid_rows}
use Rattle.image_ops.specs.PixelCounts.{has_value, times_in_row, times_shown}

-- ---- one pixel after the other

module _ (p : ℕ → Bool) (n x : ℕ) where
  -- the number that comes is itself
  next : x < n → p (get_or (range_with_len 0 n) x 0) ≡ p x
  next below = ap p (get_or-range_with_len 0 n x 0 below ∙ (let e : 0 + x ≡ x = omega arith in e))

  within : x < n → x < length (range_with_len 0 n)
  within below = omega (arith, below, length-range_with_len 0 n)

  pub more : x < n → p x ≡ true → count_by p (take (x + 1) (range_with_len 0 n)) ≡ count_by p (take x (range_with_len 0 n)) + 1
  more below passes = count_by_more_yes p (range_with_len 0 n) x 0 (within below) (next below ∙ passes)

  pub fewer : x < n → p x ≡ false → count_by p (take (x + 1) (range_with_len 0 n)) ≡ count_by p (take x (range_with_len 0 n))
  fewer below fails = count_by_more_no p (range_with_len 0 n) x 0 (within below) (next below ∙ fails)

  pub all_counted : x ≡ n → count_by p (take x (range_with_len 0 n)) ≡ count_by p (range_with_len 0 n)
  all_counted all = ap (λ k. count_by p (take k (range_with_len 0 n))) (all ∙ sym (length-range_with_len 0 n)) ∙ ap (count_by p) (take-length (range_with_len 0 n))

-- ---- pixels of one cell

module _ {T : Type 0} (eq : T → T → Bool) (v : T) where
  abbrev is_value : T → Bool
  is_value p = eq p v

  -- the cell of a number, as a list
  one_cell : (xs : List T) (i : ℕ) → i < length xs → take 1 (drop i xs) ≡ get_or xs i v ∷ []
  one_cell [] i below = absurd (omega (arith, below))
  one_cell (x ∷ xs) zero below = refl
  one_cell (x ∷ xs) (suc i) below = one_cell xs i (omega (arith, below))

  same_test : (row : List T) (i : ℕ) → i < length row → has_value eq (v ∷ []) row i ≡ is_value (get_or row i v)
  same_test row i below =
      let at : i * 1 ≡ i = omega arith in
      ap (λ k. pointwise eq (take 1 (drop k row)) (v ∷ [])) at ∙ ap (λ xs. pointwise eq xs (v ∷ [])) (one_cell row i below) ∙ grind (arith)

  upto : (row : List T) (n i : ℕ) → n ≡ length row → i ≤ n → count_by is_value (take i row) ≡ count_by (has_value eq (v ∷ []) row) (take i (range_with_len 0 n))
  upto row n zero all inside = refl
  upto row n (suc i) all inside =
      let below : i < n = omega (arith, inside) in
      let here : i < length row = omega (arith, below, all) in
      let after : suc i ≡ i + 1 = omega arith in
      ap (λ k. count_by is_value (take k row)) after
      ∙ sum_by_more (λ p. cond (is_value p) 1 0) row i v here
      ∙ (λ j. upto row n i all (omega (arith, inside)) j + cond (sym (next (has_value eq (v ∷ []) row) n i below ∙ same_test row i here) j) 1 0)
      ∙ sym (sum_by_more (λ x. cond (has_value eq (v ∷ []) row x) 1 0) (range_with_len 0 n) i 0 (within (has_value eq (v ∷ []) row) n i below))
      ∙ ap (λ k. count_by (has_value eq (v ∷ []) row) (take k (range_with_len 0 n))) (sym after)

  row_counted : (row : List T) → count_by is_value row ≡ times_in_row eq (v ∷ []) row
  unfolding times_in_row
  row_counted row =
      let one : length row / 1 ≡ length row = omega arith in
      ap (count_by is_value) (sym (take-length row))
      ∙ upto row (length row) (length row) refl (omega arith)
      ∙ all_counted (has_value eq (v ∷ []) row) (length row) (length row) refl
      ∙ ap (λ n. count_by (has_value eq (v ∷ []) row) (range_with_len 0 n)) (sym one)

  rows_counted : (rows : List (List T)) → count_by is_value (flat_map (λ r. r) rows) ≡ sum_by (times_in_row eq (v ∷ [])) rows
  rows_counted [] = refl
  rows_counted (row ∷ rows) =
      sum_by-append (λ p. cond (is_value p) 1 0) row (flat_map (λ r. r) rows)
      ∙ (λ i. row_counted row i + rows_counted rows i)
      ∙ sym (sum_by-cons (times_in_row eq (v ∷ [])) row rows)

  single : (xs : List T) → length xs ≡ 1 → v ≡ get_or xs 0 v → v ∷ [] ≡ xs
  single [] one is = absurd (omega (arith, one))
  single (x ∷ []) one is = ap (λ y. y ∷ []) is
  single (x ∷ y ∷ xs) one is = absurd (omega (arith, one))

  pub cells_counted : (value : List T) (g : Grid T) → length value ≡ 1 → v ≡ get_or value 0 v → count_by (λ p. eq p v) (grid_pixels g) ≡ times_shown eq value g
  unfolding times_shown
  cells_counted value g one is = rows_counted (grid_rows g) ∙ ap (λ xs. sum_by (times_in_row eq xs) (grid_rows g)) (single value one is)
