-- Cells and rows that a closure changes one after the other, by their numbers and places.
use Rattle.std.proofs.Common.{◌≡◌, ℕ, ◌+◌, ◌-◌, ◌*◌, ◌<◌, ◌≤◌, List, length, set, take, drop, Option, Some, subst, ◌∙◌, arith, length-set}
use Rattle.std.specs.List.{slice_get}
use Rattle.std.proofs.lemmas.Option.{slice_get_within}
use Rattle.image_model.proofs.Cells.{slice_get-set_other}
use Rattle.image_model.specs.Rows.{row_count}
use Rattle.image_model.specs.ByPlace.{HasPlaceAnswers}
use Rattle.image_shape.specs.Shape.{shaped}
use Rattle.image_shape.specs.declared.shape.Shape.{Shape}
use Rattle.image_ops.specs.CellAnswers.{AreAnswersAt}
use Rattle.image_writes.proofs.CellByCell.{one_set}
use Rattle.image_writes.proofs.RowsWritten.{RowsDone, RowRange, cell_of_row, all_right}

-- the first n cells are answers, and the others are as before
pub record AnsweredTo {T : Type 0} (answers : ℕ → T → T → Type 0) (old new : List T) (n : ℕ) : Type 0 where
  pub as_many : length new ≡ length old
  pub each : (k : ℕ) (p q : T) → k < n → slice_get old k ≡ Some p → slice_get new k ≡ Some q → answers k p q
  pub others : (k : ℕ) → n ≤ k → slice_get new k ≡ slice_get old k

-- the pixel at a place is one of the answers at the old one
abbrev pub IsAnswerAt : {T : Type 0} → (ℕ → ℕ → T → T → Type 0) → List T → ℕ → ℕ → ℕ → Option T → Type 0
IsAnswerAt {T} answers old s x y new = (p q : T) → slice_get old (y * s + x) ≡ Some p → new ≡ Some q → answers x y p q

-- the answers at the cells of a row are answers at its places
pub row_answers_at : {T : Type 0} (answers : ℕ → ℕ → T → T → Type 0) (old now line : List T) (s : Shape) (y : ℕ) (from upto x : ℕ)
    → RowsDone (IsAnswerAt answers old s.stride) old now s y → RowRange s y from upto → x < s.width
    → AreAnswersAt (λ k. answers k y) (take (upto - from) (drop from now)) line
    → IsAnswerAt answers old s.stride x y (slice_get line x)
row_answers_at answers old now line s y from upto x so at column made p q was is =
    made.each x p q (cell_of_row _ old now s y so from upto x at column ∙ was) is

-- where all rows are, each place has an answer
pub all_answered : {T : Type 0} (answers : ℕ → ℕ → T → T → Type 0) (old now : List T) (s : Shape) (y : ℕ) → RowsDone (IsAnswerAt answers old s.stride) old now s y → y ≡ row_count s.width s.height → HasPlaceAnswers answers (shaped old s) (shaped now s)
all_answered answers old now s y so all x j p q column line was is = all_right (IsAnswerAt answers old s.stride) old now s y so all x j column line p q was is

-- one cell more
pub answered_more : {T : Type 0} (answers : ℕ → T → T → Type 0) (old now : List T) (n : ℕ) (value : T) → AnsweredTo answers old now n → n < length old
    → ((p : T) → slice_get old n ≡ Some p → answers n p value) → AnsweredTo answers old (set now n value) (n + 1)
answered_more {T} answers old now n value so within made = record {
  as_many = length-set now n value ∙ so.as_many;
  each = λ k p q below was is.
      one_set (λ j new. (p' q' : T) → slice_get old j ≡ Some p' → new ≡ Some q' → answers j p' q') now n value (omega (arith, within, so.as_many))
      (λ j earlier p' q'. so.each j p' q' earlier) (λ p' q' was' is'. let same : value ≡ q' = cc is' in subst (answers n p') same (made p' was')) k below p q was is;
  others = λ k above. slice_get-set_other now n k value (λ e. absurd (omega (arith, e, above))) ∙ so.others k (omega arith);
}

-- where all cells are, each is an answer
pub all_cells_answered : {T : Type 0} (answers : ℕ → T → T → Type 0) (old new : List T) (n : ℕ) → AnsweredTo answers old new n → length old ≤ n → AreAnswersAt answers old new
all_cells_answered answers old new n so all = record {
  as_many = so.as_many;
  each = λ k p q was is. so.each k p q (omega (arith, slice_get_within old k p was, all)) was is;
}
