-- Rows joined at the front of the list, one after the other.
use Rattle.std.proofs.Common.{◌≡◌, ℕ, ◌+◌, ◌-◌, ◌*◌, ◌<◌, ◌≤◌, List, ◌++◌, length, take, drop, sym, ap, ◌∙◌, arith, refl}
use Rattle.std.proofs.lemmas.List.{take_at, drop_at, drop-drop, append-nil, take-append-drop}
use Rattle.std.proofs.lemmas.Nat.{mul-le}
use Rattle.std.proofs.Math.Nat.{mul-add, mul-le-mul_left, mul-le-mul_right}
use Rattle.image_model.specs.Layout.{Layout, layout, Fits}
use Rattle.image_model.specs.Rows.{row, joined_rows}
use Rattle.image_model.specs.Shifts.{shifted}
use Rattle.image_model.proofs.Rows.{HasRows, joined_upto, joined_upto_more, length-joined_upto, row_is, rows_from_fits, joined_in_place}
use Rattle.row_mover.specs.State.{State, IsShifted}

-- the list with its first y rows joined at the front, and as it was after them
abbrev pub compacted_upto : {T : Type 0} → Layout T → ℕ → List T
compacted_upto l y = joined_upto l y ++ drop (y * l.width) l.cells

-- the first y rows were joined, by one shift for each but the first
pub record IsCompactedUpto {T : Type 0} (old now : State T) (width height stride y : ℕ) : Type 0 where
  pub cells_are : now.cells ≡ compacted_upto (layout old.cells width height stride) y
  pub length_stays : length now.cells ≡ length old.cells
  pub count_is : now.shifts + 1 ≡ old.shifts + y
  pub lender_stays : now.lender ≡ old.lender

-- after a changed front of the same length the list is as before
drop_behind : {T : Type 0} (front cells : List T) (n k : ℕ) → length front ≡ n → drop (n + k) (front ++ drop n cells) ≡ drop (n + k) cells
drop_behind front cells n k e =
    sym (drop-drop k n (front ++ drop n cells)) ∙ ap (λ xs. drop k xs) (drop_at front (drop n cells) n e) ∙ drop-drop k n cells

-- a shift joins one row more
compacted_upto-more : {T : Type 0} (l : Layout T) (y : ℕ) → Fits l → 0 < l.width → l.width ≤ l.stride → y < l.height → shifted (compacted_upto l y) (y * l.stride) l.width (y * l.width) ≡ compacted_upto l (y + 1)
compacted_upto-more l y fits some covers below =
    let whole : HasRows l l.height = rows_from_fits l fits some in
    let n = y * l.width in
    let front = joined_upto l y in
    let now = compacted_upto l y in
    let len : length front ≡ n = length-joined_upto l y (λ j lt. whole j (omega arith)) in
    let gap : n + (y * l.stride - n) ≡ y * l.stride = omega (arith, mul-le-mul_left y covers) in
    let kept : take n now ≡ front = take_at front (drop n l.cells) n len in
    let source : drop (y * l.stride) now ≡ drop (y * l.stride) l.cells = rw gap at (drop_behind front l.cells n (y * l.stride - n) len) in
    let rest : drop (n + l.width) now ≡ drop (n + l.width) l.cells = drop_behind front l.cells n l.width len in
    let next : row l y ≡ take l.width (drop (y * l.stride) l.cells) = row_is l y (whole y below) in
    let more : joined_upto l (y + 1) ≡ front ++ row l y = joined_upto_more l y in
    let end : (y + 1) * l.width ≡ n + l.width = omega arith in
    rw (kept, source, rest, more, next, end) refl

-- the row at the front is there from the beginning
compacted_upto-one : {T : Type 0} (l : Layout T) → Fits l → 0 < l.width → 0 < l.height → compacted_upto l 1 ≡ l.cells
compacted_upto-one l fits some_column some_line = grind (arith, row_is, rows_from_fits, joined_upto, append-nil, take-append-drop)

module _ {T : Type 0} (old : State T) (w h s : ℕ) (fits : Fits (layout old.cells w h s)) (some : 0 < w) where
  -- at first one row is joined
  pub compacted_first : 0 < h → IsCompactedUpto old old w h s 1
  compacted_first some_line = search (arith, compacted_upto-one)

  -- the shift of a row joins it
  pub compacted_after : (now new : State T) (y : ℕ) → IsCompactedUpto old now w h s y → w ≤ s → y < h → IsShifted now new (y * s) w (y * w) → IsCompactedUpto old new w h s (y + 1)
  compacted_after now new y part covers below shift = record {
    cells_are = rw (shift.cells, part.cells_are) (compacted_upto-more (layout old.cells w h s) y fits some covers below);
    length_stays = shift.as_many ∙ part.length_stays;
    count_is = omega (arith, shift.shifts, part.count_is);
    lender_stays = shift.lender ∙ part.lender_stays;
  }

-- where the rows touch, or there is no pixel, there is nothing to do
pub compacted_already : {T : Type 0} (cells : List T) (w h s : ℕ) → Fits (layout cells w h s) → (0 < w → 0 < h → w ≡ s) → cells ≡ joined_rows (layout cells w h s) ++ drop (w * h) cells
compacted_already cells w h s fits touch = grind (arith, take-append-drop, joined_in_place)

-- where a row ends before it begins, a later one does too
pub stays_apart : (w s first y : ℕ) → w ≤ first * (s - w) → w ≤ s → first ≤ y → y * w + w ≤ y * s
stays_apart w s first y apart covers later =
    let more : first * (s - w) ≤ y * (s - w) = mul-le-mul_right (s - w) later in
    let same : w + (s - w) ≡ s = omega (arith, covers) in
    let whole : y * s ≡ y * w + y * (s - w) = rw same at (mul-add y w (s - w)) in
    omega (arith, apart, more, whole)

-- up to a row that is there, so many cells a row end before the last row ends
pub row_within : {T : Type 0} (cells : List T) (w h s y n : ℕ) → Fits (layout cells w h s) → 0 < w → y < h → n ≤ s → y * n ≤ length cells
row_within cells w h s y n fits some below narrow =
    let last : s * (h - 1) + w ≤ length cells = fits some (omega arith) in
    omega (arith, mul-le y n (h - 1) s (omega arith) narrow)

-- what the proof of a compaction goes by
pub ruleset compacting = (compacted_first, compacted_after, compacted_already, stays_apart)
