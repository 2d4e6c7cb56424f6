-- A window that is moved row by row, from the first or from the last.
use Rattle.std.proofs.Common.{◌≡◌, ℕ, ◌+◌, ◌-◌, ◌*◌, ◌<◌, ◌≤◌, inl, inr, ◌⊎◌, length, ◌∙◌, subst, arith}
use Rattle.std.specs.List.{slice_get}
use Rattle.std.proofs.lemmas.Bool.{cases_lt}
use Rattle.std.proofs.lemmas.Bool.Decides.{nat_tests}
use Rattle.std.proofs.Math.Nat.{mul-le-mul_right, mul-le-mul_left}
use Rattle.image_model.specs.Shifts.{rows_moved}
use Rattle.row_mover.specs.State.{State, IsShifted, AreMoved}
use Rattle.row_mover.proofs.Shifting.{shifted_at_target, shifted_elsewhere}

-- the rows from `low` up to `high` were moved, by one shift each, and every other cell is as before
pub record IsMovedPart {T : Type 0} (old now : State T) (stride from to width low high : ℕ) : Type 0 where
  pub length_stays : length now.cells ≡ length old.cells
  pub moved : (x y : ℕ) → x < width → low ≤ y → y < high → slice_get now.cells (to + y * stride + x) ≡ slice_get old.cells (from + y * stride + x)
  pub others_stay : (k : ℕ) → ((x y : ℕ) → x < width → low ≤ y → y < high → k ≡ to + y * stride + x → ⊥) → slice_get now.cells k ≡ slice_get old.cells k
  pub count_is : now.shifts + low ≡ old.shifts + high
  pub lender_stays : now.lender ≡ old.lender

-- a row ends before a later one begins
row_gap : (j y s : ℕ) → j < y → j * s + s ≤ y * s
row_gap j y s lt = grind (arith, mul-le-mul_right)

-- the window's rows from this corner on end before the list does
abbrev pub HasWindow : ℕ → ℕ → ℕ → ℕ → ℕ → Type 0
HasWindow count corner stride width height = 0 < width → 0 < height → corner + (stride * (height - 1) + width) ≤ count

-- one row of the window is shifted, where others were moved before
module _ {T : Type 0} (old now new : State T) (s from to w h y : ℕ) (covers : w ≤ s) (some : 0 < w) (below : y < h) (source : HasWindow (length old.cells) from s w h) (target : HasWindow (length old.cells) to s w h) (shift : IsShifted now new (from + y * s) w (to + y * s)) where
  row_inside : (corner : ℕ) → HasWindow (length old.cells) corner s w h → length now.cells ≡ length old.cells → corner + y * s + w ≤ length now.cells
  row_inside corner inside kept = grind (arith, mul-le-mul_left)

  -- row y has the cells that the source has now
  there : length now.cells ≡ length old.cells → (x : ℕ) → x < w → slice_get new.cells (to + y * s + x) ≡ slice_get now.cells (from + y * s + x)
  there kept x column = rw shift.cells (shifted_at_target now.cells (from + y * s) w (to + y * s) (row_inside from source kept) (row_inside to target kept) x column)

  -- cells that are not in row y stay
  elsewhere : length now.cells ≡ length old.cells → (k : ℕ) → ((x : ℕ) → x < w → k ≡ to + y * s + x → ⊥) → slice_get new.cells k ≡ slice_get now.cells k
  elsewhere kept k not_there =
      rw shift.cells (shifted_elsewhere now.cells (from + y * s) w (to + y * s) (row_inside from source kept) (row_inside to target kept) k
      (elim (cases_lt k (to + y * s)) [
        | inl lt ↦ inl lt
        | inr ge ↦ elim (cases_lt k (to + y * s + w)) [
          | inl lt ↦ absurd (not_there (k - (to + y * s)) (omega arith) (omega arith))
          | inr le ↦ inr le
        ]
      ]))

  -- row y joins the moved rows, if none of these has its cells, old or new
  joins : (low high low' high' : ℕ) → IsMovedPart old now s from to w low high
      → low' ≤ low → high ≤ high' → low' ≤ y → y < high' → high' + low ≡ high + low' + 1
      → ((j : ℕ) → low' ≤ j → j < high' → (y ≡ j) ⊎ ((low ≤ j) × (j < high)))
      → ((x x' j : ℕ) → x < w → x' < w → low ≤ j → j < high → (to + j * s + x ≡ to + y * s + x' → ⊥) × (from + y * s + x ≡ to + j * s + x' → ⊥))
      → IsMovedPart old new s from to w low' high'
  joins low high low' high' part wide_low wide_high in_low in_high one_more rows clear = record {
    length_stays = shift.as_many ∙ part.length_stays;
    moved = λ x j column above under. elim (rows j above under) [
      | inl same ↦
          subst (λ r. slice_get new.cells (to + r * s + x) ≡ slice_get old.cells (from + r * s + x)) same
          (there part.length_stays x column ∙ part.others_stay (from + y * s + x) (λ x' i column' lo hi is. (clear x x' i column column' lo hi).1 is))
      | inr earlier ↦ elsewhere part.length_stays (to + j * s + x) (λ x' column' is. (clear x x' j column column' earlier.0 earlier.1).0 is) ∙ part.moved x j column earlier.0 earlier.1
    ];
    others_stay = λ k not_there.
        elsewhere part.length_stays k (λ x column is. not_there x y column in_low in_high is)
        ∙ part.others_stay k (λ x j column lo hi is. not_there x j column (omega arith) (omega arith) is);
    count_is = omega (arith, shift.shifts, part.count_is);
    lender_stays = shift.lender ∙ part.lender_stays;
  }

  -- towards the front, row y is moved after those above it
  pub moved_after : IsMovedPart old now s from to w 0 y → to ≤ from → IsMovedPart old new s from to w 0 (y + 1)
  moved_after part order =
      joins 0 y 0 (y + 1) part (omega arith) (omega arith) (omega arith) (omega arith) (omega arith)
      (λ j above under. elim (cases_lt j y) [ inl lt ↦ inr (above, lt) | inr ge ↦ inl (omega arith) ])
      (λ x x' j column column' above under. let gap = row_gap j y s under in (λ is. omega (arith, gap), λ is. omega (arith, gap)))

  -- towards the back, row y is moved before those above it
  moved_before_row : IsMovedPart old now s from to w (y + 1) h → from ≤ to → IsMovedPart old new s from to w y h
  moved_before_row part order =
      joins (y + 1) h y h part (omega arith) (omega arith) (omega arith) (omega arith) (omega arith)
      (λ j above under. elim (cases_lt y j) [ inl lt ↦ inr (omega arith, under) | inr ge ↦ inl (omega arith) ])
      (λ x x' j column column' above under. let gap = row_gap y j s (omega arith) in (λ is. omega (arith, gap), λ is. omega (arith, gap)))

-- the same, with the row numbered as a loop that counts down has it
pub moved_before : {T : Type 0} (old now new : State T) (s from to w h y : ℕ) → w ≤ s → 0 < w → y ≤ h → 0 < y → HasWindow (length old.cells) from s w h → HasWindow (length old.cells) to s w h → IsShifted now new (from + (y - 1) * s) w (to + (y - 1) * s) → IsMovedPart old now s from to w y h → from ≤ to → IsMovedPart old new s from to w (y - 1) h
moved_before old now new s from to w h y covers some below above source target shift part order = grind (arith, moved_before_row)

-- the rows from the first to the last are the window
rows_moved-some : (w h : ℕ) → 0 < w → rows_moved w h ≡ h
rows_moved-some w h some = grind (arith, nat_tests)

pub all_moved : {T : Type 0} (old now : State T) (s from to w h low high : ℕ) → 0 < w → low ≤ 0 → h ≤ high → high ≤ h → IsMovedPart old now s from to w low high → AreMoved old now s from to w h
all_moved old now s from to w h low high some first last end part = record {
  cells = record {
    length_stays = part.length_stays;
    moved = λ x y column line. part.moved x y column (omega arith) (omega arith);
    others_stay = λ k none. part.others_stay k (λ x y column above below is. none record { x = x; y = y; column = column; line = omega arith; there = is });
  };
  shifts = omega (arith, part.count_is, rows_moved-some w h some);
  lender = part.lender_stays;
}

-- what the proof of a move goes by
pub ruleset moving = (moved_after, moved_before)
