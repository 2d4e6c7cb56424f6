-- Rows whose pixels are changed by a function, from the first row on.
use Rattle.std.proofs.Common.{◌≡◌, ◌≢◌, ℕ, ◌+◌, ◌-◌, ◌<◌, true, false, List, length, map, Option, sym, ap, ◌∙◌, arith, if◌then◌else◌, nat_lt}
use Rattle.std.specs.List.{slice_get}
use Rattle.std.specs.Option.{option_map}
use Rattle.std.proofs.lemmas.Bool.{cond-true, cond-false, true≢false}
use Rattle.std.proofs.lemmas.Bool.Decides.{nat_tests}
use Rattle.std.proofs.lemmas.List.{length-map}
use Rattle.std.proofs.lemmas.Option.{slice_get-map}
use Rattle.image_model.specs.Layout.{Layout, pixel}
use Rattle.image_model.specs.Grid.{grid, grid_of, covers, patch, one_row}
use Rattle.image_model.specs.Mapped.{mapped}
use Rattle.image_model.specs.MappedRows.{mapped_upto}
use Rattle.image_model.specs.Rows.{row}
use Rattle.image_model.proofs.Grids.{covers_decides, at_place, pixel_at, same_grids, is_patch}
use Rattle.image_model.proofs.Rows.{row_pixel}

module _ {T : Type 0} (f : T → T) where
  -- no row is changed yet
  pub mapped_none : (l : Layout T) → grid_of l ≡ mapped_upto f 0 (grid_of l)
  unfolding grid_of mapped_upto
  mapped_none l = same_grids l.width l.height (pixel l) _ (λ u v column line. sym (cond-false (nat_lt v 0) _ _ (grind (arith, nat_tests)) ∙ pixel_at l u v column line))

  -- all rows are changed
  pub mapped_all : (n : ℕ) (l : Layout T) → n ≡ l.height → mapped_upto f n (grid_of l) ≡ mapped f (grid_of l)
  unfolding grid_of mapped mapped_upto
  mapped_all n l done = same_grids l.width l.height _ _ (λ u v column line. cond-true (nat_lt v n) _ _ (grind (arith, nat_tests, done)))

  -- what an image has of which the first n rows are changed
  upto_at : (n : ℕ) (l k : Layout T) → grid_of k ≡ mapped_upto f n (grid_of l) → (u v : ℕ) → u < l.width → v < l.height
      → (grid_of k).pixel u v ≡ (if nat_lt v n then option_map f ((grid_of l).pixel u v) else (grid_of l).pixel u v)
  unfolding grid_of mapped_upto
  upto_at n l k e u v column line = ap (λ g. g.pixel u v) e ∙ at_place l.width l.height (λ x y. if nat_lt y n then option_map f ((grid_of l).pixel x y) else (grid_of l).pixel x y) u v column line

  -- one more row is changed
  pub mapped_more : (n : ℕ) (l k : Layout T) → grid_of k ≡ mapped_upto f n (grid_of l) → k.width ≡ l.width → k.height ≡ l.height → n < l.height → length (row k n) ≡ k.width
      → patch (grid_of k) 0 n (one_row (map f (row k n))) ≡ mapped_upto f (n + 1) (grid_of l)
  unfolding grid_of mapped_upto one_row
  mapped_more n l k e wide high below long =
      sym (is_patch (grid_of k) 0 n (one_row (map f (row k n))) now inside outside) ∙ ap (λ w. grid w k.height now) wide ∙ ap (λ h. grid l.width h now) high
    where
      now : ℕ → ℕ → Option T
      now u v = if nat_lt v (n + 1) then option_map f ((grid_of l).pixel u v) else (grid_of l).pixel u v

      columns : length (map f (row k n)) ≡ k.width
      columns = length-map (row k n) f ∙ long

      inside : (u v : ℕ) → u < k.width → v < k.height → covers 0 n (length (map f (row k n))) 1 u v ≡ true → now u v ≡ (one_row (map f (row k n))).pixel (u - 0) (v - n)
      inside u v in_u in_v hit =
          let c = (covers_decides 0 n (length (map f (row k n))) 1 u v).0 hit in
          let line : v ≡ n = omega (arith, c) in
          let column : u - 0 ≡ u = omega arith in
          cond-true (nat_lt v (n + 1)) _ _ (grind (arith, nat_tests))
          ∙ ap (option_map f) (sym (upto_at n l k e u v (omega (arith, wide)) (omega (arith, high)) ∙ cond-false (nat_lt v n) _ _ (grind (arith, nat_tests))))
          ∙ ap (option_map f) (pixel_at k u v in_u in_v ∙ ap (pixel k u) line ∙ sym (row_pixel k u n in_u))
          ∙ sym (slice_get-map f (row k n) u)
          ∙ ap (slice_get (map f (row k n))) (sym column)
          ∙ sym (at_place (length (map f (row k n))) 1 (λ x _. slice_get (map f (row k n)) x) (u - 0) (v - n) (omega (arith, c)) (omega (arith, c)))

      outside : (u v : ℕ) → u < k.width → v < k.height → covers 0 n (length (map f (row k n))) 1 u v ≡ false → now u v ≡ (grid_of k).pixel u v
      outside u v in_u in_v miss =
          let other : v ≢ n = λ line.
          let hit = (covers_decides 0 n (length (map f (row k n))) 1 u v).1 (omega arith, omega (arith, line), omega (arith, columns), omega (arith, line)) in
          true≢false (sym hit ∙ miss) in
          let same : nat_lt v (n + 1) ≡ nat_lt v n = grind (arith, nat_tests, other) in
          ap (λ b. if b then option_map f ((grid_of l).pixel u v) else (grid_of l).pixel u v) same ∙ sym (upto_at n l k e u v (omega (arith, wide)) (omega (arith, high)))

-- the same with the row's new pixels by themselves, in the form that a caller's goals have
pub row_mapped : {T : Type 0} (f : T → T) (n : ℕ) (cells : List T) (l k : Layout T) → grid_of k ≡ mapped_upto f n (grid_of l) → cells ≡ map f (row k n) → k.width ≡ l.width → k.height ≡ l.height → n < l.height → length (row k n) ≡ k.width
    → patch (grid_of k) 0 n (one_row cells) ≡ mapped_upto f (n + 1) (grid_of l)
row_mapped f n cells l k e is wide high below long = ap (λ c. patch (grid_of k) 0 n (one_row c)) is ∙ mapped_more f n l k e wide high below long

-- these laws, for a caller's `using`
pub ruleset mapped_rows = (mapped_none, row_mapped, mapped_all)
