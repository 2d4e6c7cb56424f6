-- Rows that are striped one after the other.
use Rattle.std.proofs.Common.{◌≡◌, ◌≢◌, ℕ, ◌+◌, ◌-◌, ◌%◌, ◌<◌, true, false, Option, Some, sym, ap, ◌∙◌, arith, if◌then◌else◌, nat_lt}
use Rattle.std.proofs.lemmas.Bool.{cond-true, cond-false, true≢false}
use Rattle.std.proofs.lemmas.Bool.Decides.{nat_tests}
use Rattle.image_model.specs.Layout.{Layout, pixel}
use Rattle.image_model.specs.Grid.{grid, grid_of, covers, patch, uniform}
use Rattle.image_model.proofs.Places.{outside_refl, outside_trans}
use Rattle.image_model.proofs.Grids.{covers_decides, at_place, pixel_at, same_grids, is_patch}
use Rattle.imgref_examples.specs.Stripes.{striped, striped_upto}

-- no row is striped yet
pub striped_none : (l : Layout ℕ) → grid_of l ≡ striped_upto 0 (grid_of l)
unfolding grid_of striped_upto
striped_none l = same_grids l.width l.height (pixel l) _ (λ u v column line. sym (cond-false (nat_lt v 0) _ _ (grind (arith, nat_tests)) ∙ pixel_at l u v column line))

-- all rows are
pub striped_all : (n : ℕ) (l : Layout ℕ) → n ≡ l.height → striped_upto n (grid_of l) ≡ striped l.width l.height
unfolding grid_of striped striped_upto
striped_all n l done = same_grids l.width l.height _ _ (λ u v column line. cond-true (nat_lt v n) _ _ (grind (arith, nat_tests, done)))

-- what an image whose first n rows are striped shows
upto_at : (n : ℕ) (l k : Layout ℕ) → grid_of k ≡ striped_upto n (grid_of l) → (u v : ℕ) → u < l.width → v < l.height → (grid_of k).pixel u v ≡ (if nat_lt v n then Some (v % 2) else (grid_of l).pixel u v)
unfolding grid_of striped_upto
upto_at n l k e u v column line = ap (λ g. g.pixel u v) e ∙ at_place l.width l.height (λ x y. if nat_lt y n then Some (y % 2) else (grid_of l).pixel x y) u v column line

-- one more row is
pub striped_more : (n : ℕ) (l k : Layout ℕ) → grid_of k ≡ striped_upto n (grid_of l) → k.width ≡ l.width → k.height ≡ l.height → n < l.height
    → patch (grid_of k) 0 n (uniform k.width 1 (n % 2)) ≡ striped_upto (n + 1) (grid_of l)
unfolding grid_of striped_upto uniform
striped_more n l k e wide high below =
    sym (is_patch (grid_of k) 0 n (uniform k.width 1 (n % 2)) now inside outside) ∙ ap (λ w. grid w k.height now) wide ∙ ap (λ h. grid l.width h now) high
  where
    now : ℕ → ℕ → Option ℕ
    now u v = if nat_lt v (n + 1) then Some (v % 2) else (grid_of l).pixel u v

    inside : (u v : ℕ) → u < k.width → v < k.height → covers 0 n k.width 1 u v ≡ true → now u v ≡ (uniform k.width 1 (n % 2)).pixel (u - 0) (v - n)
    inside u v in_u in_v hit =
        let c = (covers_decides 0 n k.width 1 u v).0 hit in
        let line : v ≡ n = omega (arith, c) in
        cond-true (nat_lt v (n + 1)) _ _ (grind (arith, nat_tests))
        ∙ ap (λ y. Some (y % 2)) line
        ∙ sym (at_place k.width 1 (λ _ _. Some (n % 2)) (u - 0) (v - n) (omega (arith, c)) (omega (arith, c)))

    outside : (u v : ℕ) → u < k.width → v < k.height → covers 0 n k.width 1 u v ≡ false → now u v ≡ (grid_of k).pixel u v
    outside u v in_u in_v miss =
        let other : v ≢ n = λ line.
        let hit = (covers_decides 0 n k.width 1 u v).1 (omega arith, omega (arith, line), omega arith, omega (arith, line)) in
        true≢false (sym hit ∙ miss) in
        let same : nat_lt v (n + 1) ≡ nat_lt v n = grind (arith, nat_tests, other) in
        ap (λ b. if b then Some (v % 2) else (grid_of l).pixel u v) same ∙ sym (upto_at n l k e u v (omega (arith, wide)) (omega (arith, high)))

-- the same where the width and the value are known by their numbers
pub row_striped : (n w q : ℕ) (l k : Layout ℕ) → grid_of k ≡ striped_upto n (grid_of l) → w ≡ k.width → q ≡ n % 2 → k.width ≡ l.width → k.height ≡ l.height → n < l.height
    → patch (grid_of k) 0 n (uniform w 1 q) ≡ striped_upto (n + 1) (grid_of l)
row_striped n w q l k e across is wide high below = (λ i. patch (grid_of k) 0 n (uniform (across i) 1 (is i))) ∙ striped_more n l k e wide high below

-- what a proof of the loop goes by
pub ruleset striped_rows = (outside_refl, outside_trans, striped_none, row_striped, striped_all)
