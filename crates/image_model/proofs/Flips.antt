-- Images turned upside down by rows that change places, from the outermost on.
use Rattle.std.proofs.Common.{◌≡◌, ℕ, ◌+◌, ◌-◌, ◌/◌, ◌<◌, ◌≤◌, sym, ap, ◌∙◌, arith, nat_lt, ◌||◌, rules}
use Rattle.std.proofs.lemmas.Bool.{cond-false}
use Rattle.std.proofs.lemmas.Bool.Decides.{nat_tests}
use Rattle.image_model.specs.Layout.{Layout, pixel}
use Rattle.image_model.specs.Grid.{grid_of}
use Rattle.image_model.specs.Swaps.{swapped_row, rows_swapped}
use Rattle.image_model.specs.Flips.{flipped_row, flipped_upto, flipped}
use Rattle.image_model.proofs.Grids.{at_place, pixel_at, same_grids}

-- a row that has not changed places yet
still_row : (h n v : ℕ) → n ≤ v → n ≤ h - 1 - v → flipped_row h n v ≡ v
still_row h n v above under = cond-false (nat_lt v n || nat_lt (h - 1 - v) n) _ _ (grind (arith, nat_tests))

-- where a row comes from after one step more
one_more : (h n v : ℕ) → n < h / 2 → v < h → flipped_row h n (swapped_row n (h - 1 - n) v) ≡ flipped_row h (n + 1) v
one_more h n v half below =
    search rules

-- no row has changed places yet
pub flipped_none : {T : Type 0} (l : Layout T) → grid_of l ≡ flipped_upto 0 (grid_of l)
unfolding grid_of flipped_upto
flipped_none l = same_grids l.width l.height (pixel l) _ (λ u v column line. sym (pixel_at l u v column line) ∙ ap ((grid_of l).pixel u) (sym (still_row l.height 0 v (omega arith) (omega arith))))

-- two rows more
pub flipped_more : {T : Type 0} (n z : ℕ) (l k : Layout T) → grid_of k ≡ flipped_upto n (grid_of l) → z ≡ l.height - 1 - n → n < l.height / 2
    → rows_swapped n z (grid_of k) ≡ flipped_upto (n + 1) (grid_of l)
unfolding grid_of flipped_upto rows_swapped
flipped_more n z l k so last half =
    ap (λ m. rows_swapped n m (grid_of k)) last
    ∙ ap (rows_swapped n (l.height - 1 - n)) so
    ∙ same_grids l.width l.height _ _ (λ u v column line.
    at_place l.width l.height (λ x y. (grid_of l).pixel x (flipped_row l.height n y)) u (swapped_row n (l.height - 1 - n) v) column (within v line)
    ∙ ap ((grid_of l).pixel u) (one_more l.height n v half line))
  where
    within : (v : ℕ) → v < l.height → swapped_row n (l.height - 1 - n) v < l.height
    within v line = grind arith

-- all rows
pub flipped_all : {T : Type 0} (n : ℕ) (l : Layout T) → n ≡ l.height / 2 → flipped_upto n (grid_of l) ≡ flipped (grid_of l)
unfolding grid_of flipped flipped_upto
flipped_all n l done = grind arith

-- these laws, for a caller's `using`
pub ruleset flips = (flipped_none, flipped_more, flipped_all)
