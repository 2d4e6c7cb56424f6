-- Counting pixels by their places.
use Rattle.std.proofs.Common.{◌≡◌, refl, ℕ, ◌+◌, arith, Bool, cond, List, [], ◌∷◌, map, Option, Some, None, ◌∙◌, sym, ap, count_by}
use Rattle.std.specs.List.{fold, filter_map, flat_map, range_with_len, cons_option}
use Rattle.std.proofs.lemmas.List.Sums.{fold-append}
use Rattle.image_model.specs.Grid.{Grid}
use Rattle.image_model.specs.Rows.{table_row, row_count, grid_pixels}
use Rattle.image_commands.specs.PlaceTests.{are_alike_pixels}
use Rattle.image_commands.specs.Commands.{count_places}

module _ {T : Type 0} (eq : T → T → Bool) (value : T) where
  abbrev add : ℕ → T → ℕ
  add n x = n + cond (eq x value) 1 0

  abbrev passed : ℕ → Bool → ℕ
  passed n passes = n + cond passes 1 0

  abbrev pub test : Option T → Bool
  test o = are_alike_pixels eq o (Some value)

  one_more : (o : Option T) (xs : List T) (bs : List Bool) → ((n : ℕ) → fold add n xs ≡ fold passed n bs) → (n : ℕ) → fold add n (cons_option o xs) ≡ fold passed n (test o ∷ bs)
  one_more None xs bs same n = ap (λ k. fold add k xs) (let none : n ≡ n + 0 = omega arith in none) ∙ same (n + 0)
  one_more (Some x) xs bs same n = same (n + cond (eq x value) 1 0)

  one_line : (at : ℕ → Option T) (columns : List ℕ) (n : ℕ) → fold add n (filter_map at columns) ≡ fold passed n (filter_map (λ x. Some (test (at x))) columns)
  one_line at [] n = refl
  one_line at (x ∷ columns) n = one_more (at x) (filter_map at columns) (filter_map (λ x. Some (test (at x))) columns) (one_line at columns) n

  all_lines : (at : ℕ → ℕ → Option T) (width : ℕ) (lines : List ℕ) (n : ℕ)
      → fold add n (flat_map (λ r. r) (map (table_row at width) lines)) ≡ fold passed n (flat_map (λ r. r) (map (table_row (λ x y. Some (test (at x y))) width) lines))
  all_lines at width [] n = refl
  all_lines at width (y ∷ lines) n =
      fold-append add n (table_row at width y) _
      ∙ ap (λ k. fold add k (flat_map (λ r. r) (map (table_row at width) lines))) (one_line (λ x. at x y) (range_with_len 0 width) n)
      ∙ all_lines at width lines _
      ∙ sym (fold-append passed n (table_row (λ x y. Some (test (at x y))) width y) _)

  -- the pixels of a grid that are equal to a value are those at the places that pass the test
  pub count_is : (g : Grid T) → count_by (λ pixel. eq pixel value) (grid_pixels g) ≡ count_places g.width g.height (λ x y. test (g.pixel x y))
  count_is g = all_lines g.pixel g.width (range_with_len 0 (row_count g.width g.height)) 0
