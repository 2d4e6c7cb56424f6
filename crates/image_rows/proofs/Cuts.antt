-- Rows cut off their cells at either end: where they are cut, what they are, and how the others lie in the cells that are kept.
use Rattle.std.proofs.Common.{◌≡◌, ℕ, ◌+◌, ◌-◌, ◌*◌, ◌<◌, ◌≤◌, List, [], ◌∷◌, ◌++◌, length, take, drop, None, Some, MutBor, sym, ap, ◌∙◌, arith, ap₂, take-append-drop}
use Rattle.std.proofs.Math.Nat.{mul-add, mul_comm}
use Rattle.std.proofs.lemmas.List.{take-take, length-drop, length-take-le}
use Rattle.image_model.specs.Layout.{layout}
use Rattle.image_model.specs.Rows.{rows}
use Rattle.image_shape.specs.declared.ends.End.{End}
use Rattle.image_shape.specs.declared.ends.End.TheVariants.{First, Last}
use Rattle.image_shape.specs.declared.spacing.Spacing.{Spacing}
use Rattle.image_shape.specs.Spacing.{span, without, outer_cut, inner_cut}
use Rattle.image_rows.specs.declared.writing.RowsIterMut.{RowsIterMut}
use Rattle.image_rows.specs.Rows.{near, far, beside, let_go, muts_left, Yields}
use Rattle.image_rows.proofs.RowsLeft.{rows_none, suc_times, first_off, last_off}

-- rows that are so spaced have a column, don't overlap, and are within so many cells
abbrev pub Lies : Spacing → ℕ → Type 0
Lies s n = (0 < s.count → 0 < s.width) × (s.width ≤ s.stride) × (0 < s.count → s.skip + span s.count s ≤ n)

-- k of the rows at one end
module _ {T : Type 0} (s : Spacing) (k : ℕ) (xs : List T) (lies : Lies s (length xs)) (some : 0 < k) (there : k ≤ s.count) where
  pub reaches : s.skip + span s.count s ≤ length xs
  reaches = lies.2 (omega (arith, some, there))

  -- the first of the others begins whole rows further
  apart : s.stride * (s.count - 1) ≡ s.stride * (k - 1) + s.stride * (s.count - k)
  apart = let e : s.count - 1 ≡ k - 1 + (s.count - k) = omega (arith, some, there) in ap (λ i. s.stride * i) e ∙ mul-add s.stride (k - 1) (s.count - k)

  before : (s.count - k) * s.stride ≡ s.stride * (s.count - k)
  before = mul_comm (s.count - k) s.stride

  pub outer_within : (end : End) → outer_cut end k s ≤ length xs
  outer_within First = omega (arith, reaches, apart)
  outer_within Last = omega (arith, reaches, apart, before)

  pub inner_within : (end : End) → inner_cut end k s ≤ length (near end (outer_cut end k s) xs)
  inner_within First = omega (arith, length-take-le (outer_cut First k s) xs (outer_within First))
  inner_within Last = omega (arith, reaches, apart, before, length-drop (outer_cut Last k s) xs)

  -- before the first rows there are those that are skipped
  pub gone_first : take s.skip (take (outer_cut First k s) xs) ≡ take s.skip xs
  gone_first = take-take s.skip (outer_cut First k s) xs (omega arith)

  -- the others lie in the cells that are kept
  pub rest_lies : (end : End) → Lies (without end k s) (length (far end (outer_cut end k s) xs))
  rest_lies First = grind (arith, reaches, apart, before, suc_times, mul_comm, length-drop)
  rest_lies Last = (
    λ more. lies.0 (omega (arith, more)),
    lies.1,
    λ more. omega (arith, lies.1, suc_times (s.count - k) s.stride more, mul_comm (s.count - k - 1) s.stride, length-take-le (outer_cut Last k s) xs (outer_within Last)),
  )

module _ {T : Type 0} where
  -- the two sides of a cell are all cells
  two_sides : (end : End) (n : ℕ) (xs : List T) → beside end (near end n xs) (far end n xs) ≡ xs
  two_sides First n xs = take-append-drop n xs
  two_sides Last n xs = take-append-drop n xs

  -- the cells are put together again
  pub whole_is : (end : End) (outer inner : ℕ) (xs piece gone row kept : List T) → piece ≡ near end outer xs → kept ≡ far end outer xs
      → gone ≡ near end inner piece → row ≡ far end inner piece → xs ≡ beside end (beside end gone row) kept
  whole_is end outer inner xs piece gone row kept is_piece is_kept is_gone is_row = grind (arith, two_sides)

-- ---- one row

-- it is as long as it is wide
one_row : (s : Spacing) → span 1 s ≡ s.width
one_row s = omega arith

module _ {T : Type 0} where
  abbrev rows_in : Spacing → List T → List (List T)
  rows_in s xs = rows (layout (drop s.skip xs) s.width s.count s.stride)

  -- what is cut off and is no part of the row
  pub gone_is : (end : End) (s : Spacing) (xs : List T) → near end (inner_cut end 1 s) (near end (outer_cut end 1 s) xs) ≡ let_go end s xs
  gone_is First s xs = take-take s.skip (outer_cut First 1 s) xs (omega arith)
  gone_is Last s xs = ap (λ n. drop n (drop (outer_cut Last 1 s) xs)) (one_row s)

  -- the row and what is kept are the step of an iterator
  pub given_at : (end : End) (s t : RowsIterMut T) (row : MutBor (List T)) (one : 0 < s.spacing.count)
      → row.now ≡ far end (inner_cut end 1 s.spacing) (near end (outer_cut end 1 s.spacing) s.cells.now)
      → t.cells.now ≡ far end (outer_cut end 1 s.spacing) s.cells.now → t.spacing ≡ without end 1 s.spacing → Yields end s (Some row) t
  unfolding muts_left
  given_at First s t row one is_row is_kept is_rest =
      let p = s.spacing in
      let end : p.skip + p.width ≡ outer_cut First 1 p = ap (λ n. p.skip + n) (sym (one_row p)) in
      first_off s.cells.now p.skip p.width p.stride p.count (s.some one) one s.holds_width
      ∙ ap₂ (λ r rs. r ∷ rs) (ap (λ n. drop p.skip (take n s.cells.now)) end ∙ sym is_row) (ap (λ n. rows_in (without First 1 p) (drop n s.cells.now)) end ∙ ap₂ rows_in (sym is_rest) (sym is_kept))
  given_at Last s t row one is_row is_kept is_rest =
      let p = s.spacing in
      last_off s.cells.now p.skip p.width p.stride p.count (s.some one) one s.holds_width
      ∙ ap₂ (λ r rs. rs ++ r ∷ []) (ap (λ n. take n (drop (outer_cut Last 1 p) s.cells.now)) (sym (one_row p)) ∙ sym is_row) (ap₂ rows_in (sym is_rest) (sym is_kept))

  -- without a row there is no step
  pub none_at : (end : End) (s : RowsIterMut T) → s.spacing.count ≡ 0 → Yields end s None s
  unfolding muts_left
  none_at First s none = let no = rows_none (drop s.spacing.skip s.cells.now) s.spacing.width s.spacing.stride s.spacing.count none in (no, no)
  none_at Last s none = let no = rows_none (drop s.spacing.skip s.cells.now) s.spacing.width s.spacing.stride s.spacing.count none in (no, no)
