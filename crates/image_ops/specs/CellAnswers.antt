-- Cells that a closure changes one by one, by their numbers.
use Rattle.std.specs.Prelude.{◌≡◌, ℕ, List, length, slice_get, Some}

-- a call with each cell and its number is allowed
abbrev pub TakesEachCell : {T : Type 0} → (ℕ → T → Type 0) → List T → Type 0
TakesEachCell {T} pre cells = (k : ℕ) (p : T) → slice_get cells k ≡ Some p → pre k p

-- a call with the two cells of each number is allowed
abbrev pub TakesBothCells : {T U : Type 0} → (T → U → Type 0) → List T → List U → Type 0
TakesBothCells {T} {U} pre cells others = (k : ℕ) (p : T) (q : U) → slice_get cells k ≡ Some p → slice_get others k ≡ Some q → pre p q

-- each cell is one of the results for its number and the old one
pub record AreAnswersAt {T : Type 0} (answers : ℕ → T → T → Type 0) (old new : List T) : Type 0 where
  pub as_many : length new ≡ length old
  pub each : (k : ℕ) (p q : T) → slice_get old k ≡ Some p → slice_get new k ≡ Some q → answers k p q

-- the results for a cell and the cell of that number of another list
abbrev pub both_answers : {T U : Type 0} → (T → U → T → Type 0) → List U → ℕ → T → T → Type 0
both_answers {T} {U} answers others k p r = (q : U) → slice_get others k ≡ Some q → answers p q r
