-- The rows of an image, written one after the other.
use Rattle.std.proofs.Common.{◌≡◌, ℕ, zero, suc, ◌+◌, ◌-◌, ◌*◌, ◌<◌, ◌≤◌, List, [], ◌∷◌, ◌++◌, length, set, take, drop, replicate, Option, refl, sym, ap, subst, ◌∙◌, arith, inl, inr, drop-drop, append_assoc, length-take, length-drop}
use Rattle.std.specs.List.{slice_get}
use Rattle.std.proofs.lemmas.Bool.{cases_lt}
use Rattle.std.proofs.Math.Nat.{mul-le-mul_right, suc-mul}
use Rattle.image_model.specs.Layout.{pixel, Fits, IsPadding, SameOutside}
use Rattle.image_model.specs.Grid.{grid, grid_of}
use Rattle.image_model.specs.Rows.{row_count}
use Rattle.image_model.specs.Shifts.{shifted}
use Rattle.image_model.specs.Windows.{Stretch, with_stretch}
use Rattle.image_model.proofs.Cells.{slice_get-take, slice_get-drop}
use Rattle.image_model.proofs.Grids.{same_grids}
use Rattle.image_model.proofs.Rows.{row_reached, row_count-le, row_count-wide}
use Rattle.image_model.proofs.Stretches.{length-with_stretch, with_stretch_at, with_stretch_beside}
use Rattle.image_shape.specs.Shape.{shaped, shaped_grid}
use Rattle.image_shape.specs.declared.shape.Shape.{Shape}
use Rattle.image_shape.specs.declared.window.Stretch as part
use Rattle.image_writes.specs.Written.{Becomes}

-- one cell more
pub filled_more : {T : Type 0} (n : ℕ) (value : T) (xs : List T) → n < length xs → set (replicate n value ++ drop n xs) n value ≡ replicate (n + 1) value ++ drop (n + 1) xs
filled_more n value [] within = absurd (omega (arith, within))
filled_more zero value (x ∷ xs) within = refl
filled_more (suc n) value (x ∷ xs) within =
    let on : suc n + 1 ≡ suc (n + 1) = omega arith in
    ap (λ ys. value ∷ ys) (filled_more n value xs (omega (arith, within))) ∙ ap (λ k. replicate k value ++ drop k (x ∷ xs)) (sym on)

-- the numbers of the cells of row y
pub record RowRange (s : Shape) (y from upto : ℕ) : Type 0 where
  pub begins : from ≡ y * s.stride
  pub ends : upto ≡ from + s.width

-- a range that a row gives
pub row_range : (s : Shape) (y : ℕ) {from upto start len : ℕ} → from ≡ start → upto ≡ start + len → start ≡ y * s.stride → len ≡ s.width → RowRange s y from upto
row_range s y first last begins count = record { begins = first ∙ begins; ends = omega (arith, first, last, count) }

-- each place of the first y rows has a pixel that is right there, and all other cells are as before
pub record RowsDone {T : Type 0} (IsRight : ℕ → ℕ → Option T → Type 0) (old new : List T) (s : Shape) (y : ℕ) : Type 0 where
  pub as_many : length new ≡ length old
  pub each : (x j : ℕ) → x < s.width → j < y → IsRight x j (slice_get new (j * s.stride + x))
  pub others : (k : ℕ) → IsPadding s.width y s.stride k → slice_get new k ≡ slice_get old k

module _ {T : Type 0} (IsRight : ℕ → ℕ → Option T → Type 0) where
  -- no row is written yet
  pub no_row : (cells : List T) (s : Shape) → RowsDone IsRight cells cells s 0
  no_row cells s = record { as_many = refl; each = λ x j column line. absurd (omega (arith, line)); others = λ k other. refl }

module _ {T : Type 0} (IsRight : ℕ → ℕ → Option T → Type 0) (old now : List T) (s : Shape) (y : ℕ) (so : RowsDone IsRight old now s y) where
  -- a cell of row y is as it was
  pub still : (x : ℕ) → x < s.width → slice_get now (y * s.stride + x) ≡ slice_get old (y * s.stride + x)
  still x column =
      so.others (y * s.stride + x) (record {
        no_place = λ u j inside line at.
            let next : (j + 1) * s.stride ≤ y * s.stride = mul-le-mul_right s.stride (omega arith) in
            absurd (omega (arith, next, at, inside, s.holds_width));
      })

  -- so is each of the cells that a range of row y has
  pub cell_of_row : (from upto x : ℕ) → RowRange s y from upto → x < s.width → slice_get (take (upto - from) (drop from now)) x ≡ slice_get old (y * s.stride + x)
  cell_of_row from upto x at column =
      slice_get-take (upto - from) (drop from now) x (omega (arith, column, at.ends)) ∙ slice_get-drop from now x ∙ ap (λ n. slice_get now (n + x)) at.begins ∙ still x column

  module _ (fits : Fits (shaped old s)) (below : y < row_count s.width s.height) where
    -- one row more
    pub one_row_more : (line : List T) → length line ≡ s.width → ((x : ℕ) → x < s.width → IsRight x y (slice_get line x))
        → RowsDone IsRight old (with_stretch now (record { start = y * s.stride; len = s.width }) line) s (y + 1)
    one_row_more line long right =
        let w : ℕ = s.width in
        let row : Stretch = record { start = y * s.stride; len = w } in
        let new : List T = with_stretch now row line in
        let inside : y * s.stride + w ≤ length now = omega (arith, row_reached (length old) w s.height s.stride y fits below, so.as_many) in
        record {
          as_many = length-with_stretch now row line inside long ∙ so.as_many;
          each = λ x j column upto.
              elim (cases_lt j y) [
                | inl earlier ↦
                    let next : (j + 1) * s.stride ≤ y * s.stride = mul-le-mul_right s.stride (omega arith) in
                    subst (IsRight x j) (sym (with_stretch_beside now row line inside long (j * s.stride + x) (inl (omega (arith, next, s.holds_width))))) (so.each x j column earlier)
                | inr last ↦
                    let this : y ≡ j = omega (arith, upto, last) in
                    subst (λ n. IsRight x n (slice_get new (n * s.stride + x))) this (subst (IsRight x y) (sym (with_stretch_at now row line inside x (omega (arith, long)))) (right x column))
              ];
          others = λ k other.
              let stays = so.others k (record { no_place = λ x j column before. other.no_place x j column (omega arith) }) in
              elim (cases_lt k (y * s.stride)) [
                | inl ahead ↦ with_stretch_beside now row line inside long k (inl ahead) ∙ stays
                | inr behind ↦
                    elim (cases_lt k (y * s.stride + w)) [
                      | inl here ↦ let at : y * s.stride + (k - y * s.stride) ≡ k = omega arith in absurd (other.no_place (k - y * s.stride) y (omega arith) (omega arith) at)
                      | inr after ↦ with_stretch_beside now row line inside long k (inr after) ∙ stays
                    ]
              ];
        }

    -- the cells of the row, which a loop writes over
    module _ (from upto : ℕ) (at : RowRange s y from upto) where
      -- are as many as a row has
      pub row_length : length (take (upto - from) (drop from now)) ≡ s.width
      row_length =
          omega (arith, at.begins, at.ends, row_reached (length old) s.width s.height s.stride y fits below, so.as_many, length-take (upto - from) (drop from now), length-drop from now)

      -- one row more, of the cells that a loop leaves: those before the row, the row, and those after it
      pub row_written : (line : List T) → length line ≡ length (take (upto - from) (drop from now)) → ((x : ℕ) → x < s.width → x < length line → IsRight x y (slice_get line x))
          → RowsDone IsRight old (take from now ++ (line ++ drop (upto - from) (drop from now))) s (y + 1)
      row_written line as_many right =
          let long : length line ≡ s.width = as_many ∙ row_length in
          let back : upto - from ≡ s.width = omega (arith, at.ends) in
          let rest : drop (upto - from) (drop from now) ≡ drop (y * s.stride + s.width) now = ap (λ n. drop n (drop from now)) back ∙ drop-drop s.width from now ∙ ap (λ n. drop (n + s.width) now) at.begins in
          subst (λ cells. RowsDone IsRight old cells s (y + 1)) (λ i. take (sym at.begins i) now ++ (line ++ sym rest i)) (one_row_more line long (λ x column. right x column (omega (arith, column, long))))

  module _ (all : y ≡ row_count s.width s.height) where
    -- all rows are written, and what is outside the places stays
    pub outside_stays : SameOutside (shaped old s) (shaped now s)
    outside_stays = record {
      width_stays = refl;
      height_stays = refl;
      stride_stays = refl;
      length_stays = so.as_many;
      padding_stays = λ k padding. so.others k (record { no_place = λ x j column line. padding.no_place x j column (omega (arith, line, all, row_count-le s.width s.height)) });
    }

    -- and each place is right
    pub all_right : (x j : ℕ) → x < s.width → j < s.height → IsRight x j (slice_get now (j * s.stride + x))
    all_right x j column line = so.each x j column (omega (arith, line, all, row_count-wide s.width s.height (omega (arith, column))))

-- where each row is that of a table, the grid is the table
pub shows_table : {T : Type 0} (at : ℕ → ℕ → Option T) (old new : List T) (s : Shape) (y : ℕ) → RowsDone (λ x j p. p ≡ at x j) old new s y → y ≡ row_count s.width s.height → shaped_grid new s ≡ grid s.width s.height at
unfolding grid_of
shows_table at old new s y so all =
    same_grids s.width s.height (pixel (shaped new s)) at (all_right (λ x j p. p ≡ at x j) old new s y so all)

-- so all pixels become those of the table
pub becomes_table : {T : Type 0} (at : ℕ → ℕ → Option T) (old new : List T) (s : Shape) (y : ℕ) → RowsDone (λ x j p. p ≡ at x j) old new s y → y ≡ row_count s.width s.height → Becomes s old new (grid s.width s.height at)
becomes_table at old new s y so all = record { grid = shows_table at old new s y so all; outside = outside_stays (λ x j p. p ≡ at x j) old new s y so all }

-- a row is copied from the one above it, where the table's rows are the same
module _ {T : Type 0} (at : ℕ → ℕ → Option T) (old now : List T) (s : Shape) (y : ℕ) (so : RowsDone (λ x j p. p ≡ at x j) old now s y) (fits : Fits (shaped old s)) (below : y < row_count s.width s.height) where
  pub row_copied : (above row : part.Stretch) → 0 < y → ((x : ℕ) → at x (y - 1) ≡ at x y) → above.start ≡ row.start - s.stride → above.len ≡ s.width → row.start ≡ y * s.stride
      → RowsDone (λ x j p. p ≡ at x j) old (shifted now above.start above.len row.start) s (y + 1)
  row_copied above row later alike begins count from =
      let before : y ≡ y - 1 + 1 = omega (arith, later) in
      let lines : y * s.stride ≡ (y - 1) * s.stride + s.stride = ap (λ n. n * s.stride) before ∙ (let e : (y - 1 + 1) * s.stride ≡ suc (y - 1) * s.stride = omega arith in e ∙ suc-mul (y - 1) s.stride) in
      let same : above.start ≡ (y - 1) * s.stride = omega (arith, begins, from, lines) in
      let reached : y * s.stride + s.width ≤ length now = omega (arith, row_reached (length old) s.width s.height s.stride y fits below, so.as_many) in
      let copied : List T = take above.len (drop above.start now) in
      let many : length copied ≡ s.width = omega (arith, count, same, lines, s.holds_width, reached, length-take above.len (drop above.start now), length-drop above.start now) in
      subst (λ cells. RowsDone (λ x j p. p ≡ at x j) old cells s (y + 1))
      ((λ i. take (sym from i) now ++ (copied ++ drop (sym from i + sym count i) now)) ∙ sym (append_assoc (take row.start now) copied (drop (row.start + above.len) now)))
      (one_row_more (λ x j p. p ≡ at x j) old now s y so fits below copied many
      (λ x column.
      slice_get-take above.len (drop above.start now) x (omega (arith, column, count))
      ∙ slice_get-drop above.start now x
      ∙ ap (λ n. slice_get now (n + x)) same
      ∙ so.each x (y - 1) column (omega (arith, before))
      ∙ alike x))
