-- Cells that change places, and rows of which each cell is taken from the same row.
use Rattle.std.proofs.Common.{◌≡◌, ℕ, ◌+◌, ◌-◌, ◌*◌, ◌<◌, ◌≤◌, ◌⊎◌, List, length, set, take, drop, Option, sym, subst, ap, ◌∙◌, arith, length-set, inl, inr, Some}
use Rattle.std.specs.List.{slice_get}
use borrow.Rule.Slice.PartMut.{put_mid}
use Rattle.std.proofs.lemmas.Bool.{cases_lt}
use Rattle.std.proofs.lemmas.Bool.Decides.{eqb_tells, nat_tests}
use Rattle.image_model.proofs.Cells.{slice_get-take, slice_get-drop, slice_get-set_same, slice_get-set_other}
use Rattle.image_model.specs.Layout.{Layout, pixel}
use Rattle.image_model.specs.Grid.{grid, grid_of}
use Rattle.image_model.specs.Turns.{swapped_column}
use Rattle.image_model.specs.Windows.{Stretch, with_stretch}
use Rattle.image_model.proofs.Stretches.{length-with_stretch, with_stretch_at, with_stretch_beside}
use Rattle.image_model.proofs.Grids.{pixel_at, same_grids}
use Rattle.image_shape.specs.declared.shape.Shape.{Shape}
use Rattle.image_writes.specs.Gathered.{AreGathered, mirrored_place}
use Rattle.image_writes.proofs.Gathering.{written}
use Rattle.image_writes.proofs.RowsWritten.{RowsDone, RowRange, cell_of_row}

-- ---- cells that change places with those at the same distance from the other end

-- cells that are taken from cells that were taken
pub gathered_twice : {T : Type 0} (first second both : ℕ → ℕ) (old now new : List T) → length now ≡ length old → length new ≡ length old → AreGathered first old now → AreGathered second now new
    → ((k : ℕ) → k < length old → second k < length old) → ((k : ℕ) → k < length old → first (second k) ≡ both k) → AreGathered both old new
gathered_twice first second both old now new as_many still_many one other within same = record {
  each = λ k below.
      let here : k < length old = omega (arith, below, still_many) in
      other.each k below ∙ one.each (second k) (omega (arith, within k here, as_many)) ∙ ap (slice_get old) (same k here);
}

pub mirrored_within : (n from upto k : ℕ) → k < n → mirrored_place n from upto k < n
mirrored_within n from upto k below = grind (arith, nat_tests)

pub mirrored_twice : (n from middle upto k : ℕ) → from ≤ middle → middle ≤ upto → k < n → mirrored_place n from middle (mirrored_place n middle upto k) ≡ mirrored_place n from upto k
mirrored_twice n from middle upto k first second below = grind (arith, nat_tests)

-- of two blocks that change places each cell comes from the other one, and the others stay
pub mirrored_front : (n done many last j : ℕ) → last ≡ n - done - many → 2 * done + many ≤ n → j < many → done + (many - 1 - j) ≡ mirrored_place n done (done + many) (last + j)
mirrored_front n done many last j is_last inside below = grind (arith, nat_tests)

pub mirrored_rear : (n done many last j : ℕ) → last ≡ n - done - many → 2 * done + many ≤ n → j < many → last + (many - 1 - j) ≡ mirrored_place n done (done + many) (done + j)
mirrored_rear n done many last j is_last inside below = grind (arith, nat_tests)

pub mirrored_stays : (n done many last k : ℕ) → last ≡ n - done - many → 2 * done + many ≤ n → k < n → (k < done) ⊎ (done + many ≤ k) → (k < last) ⊎ (last + many ≤ k) → mirrored_place n done (done + many) k ≡ k
mirrored_stays n done many last k is_last inside here first second = grind (arith, nat_tests)

-- all cells have changed places
pub mirrored_all : (n k : ℕ) → k < n → mirrored_place n 0 n k ≡ n - 1 - k
mirrored_all n k below = grind (arith, nat_tests)

-- one pair more
pub mirrored_once : (n x k : ℕ) → 2 * x + 1 < n → k < n → mirrored_place n 0 x (swapped_column x (n - 1 - x) k) ≡ mirrored_place n 0 (x + 1) k
mirrored_once n x k inside below = grind (arith, nat_tests)

-- half of the pairs are all of them
pub mirrored_half : (n half k : ℕ) → n ≤ 2 * half + 1 → 2 * half ≤ n → k < n → mirrored_place n 0 half k ≡ n - 1 - k
mirrored_half n half k reached within below = grind (arith, nat_tests)

-- two blocks that reach each other are all that is left
pub mirrored_rest : (n done more k : ℕ) → n ≤ 2 * (done + more) → k < n → mirrored_place n done (done + more) k ≡ mirrored_place n done n k
mirrored_rest n done more k reached below = grind (arith, nat_tests)

-- the cell in the middle stays
pub mirrored_none : (n done k : ℕ) → n < 2 * done + 2 → k < n → mirrored_place n done n k ≡ k
mirrored_none n done k few below = grind (arith, nat_tests)

-- a block has the cells of a stretch, in this order
pub record HasStretch {T : Type 0} (order : ℕ → ℕ) (old : List T) (start n : ℕ) (block : List T) : Type 0 where
  pub many : length block ≡ n
  pub each : (j : ℕ) → j < n → slice_get block j ≡ slice_get old (start + order j)

-- so does one that was gathered from that part of the row
pub gathered_stretch : {T : Type 0} {order : ℕ → ℕ} {old block : List T} (start many n : ℕ) → many ≡ n → length block ≡ n → ((j : ℕ) → j < n → order j < n) → AreGathered order (take many (drop start old)) block → HasStretch order old start n block
gathered_stretch {order = order} {old = old} start many n is_many long within so = record {
  many = long;
  each = λ j below.
      so.each j (omega (arith, long, below)) ∙ slice_get-take many (drop start old) (order j) (omega (arith, is_many, within j below)) ∙ slice_get-drop start old (order j);
}

-- each cell of a list of which a stretch was written
pub each_written : {T : Type 0} (P : ℕ → Option T → Type 0) (cells block : List T) (start n : ℕ) → start + n ≤ length cells → length block ≡ n → ((j : ℕ) → j < n → P (start + j) (slice_get block j))
    → (k : ℕ) → ((k < start) ⊎ (start + n ≤ k) → P k (slice_get cells k)) → P k (slice_get (with_stretch cells (record { start = start; len = n }) block) k)
each_written P cells block start n inside long shows k beside =
    let s : Stretch = record { start = start; len = n } in
    let stays = λ (out : (k < start) ⊎ (start + n ≤ k)). subst (P k) (sym (with_stretch_beside cells s block inside long k out)) (beside out) in
    elim (cases_lt k start) [
      | inl before ↦ stays (inl before)
      | inr from ↦
          elim (cases_lt k (start + n)) [
            | inr after ↦ stays (inr after)
            | inl upto ↦
                let at : start + (k - start) ≡ k = omega (arith, from) in
                let here : k - start < n = omega (arith, from, upto) in
                subst (λ m. P m (slice_get (with_stretch cells s block) m)) at (subst (P (start + (k - start))) (sym (with_stretch_at cells s block inside (k - start) (omega (arith, here, long)))) (shows (k - start) here))
          ]
    ]

-- two blocks are written, each over the stretch of which the other one has the cells
pub blocks_crossed : {T : Type 0} {order : ℕ → ℕ} {old front back : List T} (place : ℕ → ℕ) (done n last : ℕ) → 2 * done + n ≤ length old → last ≡ length old - done - n → HasStretch order old done n front → HasStretch order old last n back
    → ((j : ℕ) → j < n → done + order j ≡ place (last + j)) → ((j : ℕ) → j < n → last + order j ≡ place (done + j)) → ((k : ℕ) → k < length old → (k < done) ⊎ (done + n ≤ k) → (k < last) ⊎ (last + n ≤ k) → place k ≡ k)
    → AreGathered place old (put_mid last (last + n - last) (put_mid done (done + n - done) old back) front)
blocks_crossed {T} {old = old} {front} {back} place done n last inside is_last has_front has_back to_last to_done stays =
    let first : Stretch = record { start = done; len = n } in
    let half : List T = with_stretch old first back in
    let many : length half ≡ length old = length-with_stretch old first back (omega (arith, inside)) has_back.many in
    let ends : last + n ≤ length half = omega (arith, many, is_last, inside) in
    let both : List T = with_stretch half (record { start = last; len = n }) front in
    let as_many : length both ≡ length old = length-with_stretch half (record { start = last; len = n }) front ends has_front.many ∙ many in
    let P : ℕ → Option T → Type 0 = λ k p. p ≡ slice_get old (place k) in
    subst (AreGathered place old) (sym (written (put_mid done (done + n - done) old back) front last (last + n - last) n (omega arith) ∙ ap (λ cells. with_stretch cells (record { start = last; len = n }) front) (written old back done (done + n - done) n (omega arith))))
    (record {
      each = λ k below.
          each_written P half front last n ends has_front.many (λ j here. has_front.each j here ∙ ap (slice_get old) (to_last j here)) k (λ second.
          each_written P old back done n (omega (arith, inside)) has_back.many (λ j here. has_back.each j here ∙ ap (slice_get old) (to_done j here)) k (λ first.
          ap (slice_get old) (sym (stays k (omega (arith, below, as_many)) first second))));
    })

-- ---- rows of which each cell is taken from the same row

-- each pixel of a row comes from another of that row
abbrev pub FromRow : {T : Type 0} → (ℕ → ℕ) → List T → Shape → ℕ → ℕ → Option T → Type 0
FromRow from old s x y p = p ≡ slice_get old (y * s.stride + from x)

pub row_from : {T : Type 0} (from : ℕ → ℕ) (old now line : List T) (s : Shape) (y : ℕ) (first upto : ℕ) → RowsDone (FromRow from old s) old now s y
    → RowRange s y first upto → AreGathered from (take (upto - first) (drop first now)) line
    → ((x : ℕ) → x < s.width → from x < s.width) → (x : ℕ) → x < s.width → x < length line → FromRow from old s x y (slice_get line x)
row_from from old now line s y first upto so at made within x column here =
    made.each x here ∙ cell_of_row (FromRow from old s) old now s y so first upto (from x) at (within x column)

-- the grid of such a table of cells
pub from_rows : {T : Type 0} (from : ℕ → ℕ) (l : Layout T) → ((x : ℕ) → x < l.width → from x < l.width)
    → grid l.width l.height (λ x y. pixel l (from x) y) ≡ grid l.width l.height (λ x y. (grid_of l).pixel (from x) y)
from_rows from l within = same_grids l.width l.height _ _ (λ x y column line. sym (pixel_at l (from x) y (within x column) line))

-- ---- two cells that change places

pub swapped_within : (x z u n : ℕ) → x < n → z < n → u < n → swapped_column x z u < n
swapped_within x z u n first second here = grind arith

pub cells_swapped : {T : Type 0} (xs : List T) (x z : ℕ) (p q : T) → x < length xs → z < length xs → slice_get xs x ≡ Some p → slice_get xs z ≡ Some q
    → AreGathered (swapped_column x z) xs (set (set xs x q) z p)
cells_swapped xs x z p q first second here there = record {
  each = λ k below.
      elim (eqb_tells k z) [
        | inl (_, same) ↦
            let is : swapped_column x z k ≡ x = grind (arith, same) in
            ap (slice_get (set (set xs x q) z p)) same ∙ slice_get-set_same (set xs x q) z p (omega (arith, second, length-set xs x q)) ∙ sym here ∙ ap (slice_get xs) (sym is)
        | inr (_, not_z) ↦
            elim (eqb_tells k x) [
              | inl (_, same) ↦
                  let is : swapped_column x z k ≡ z = grind (arith, same) in
                  slice_get-set_other (set xs x q) z k p not_z ∙ ap (slice_get (set xs x q)) same ∙ slice_get-set_same xs x q first ∙ sym there ∙ ap (slice_get xs) (sym is)
              | inr (_, not_x) ↦
                  let is : swapped_column x z k ≡ k = grind (arith, not_x, not_z) in
                  slice_get-set_other (set xs x q) z k p not_z ∙ slice_get-set_other xs x k q not_x ∙ ap (slice_get xs) (sym is)
            ]
      ];
}
