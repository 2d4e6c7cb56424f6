-- Loops over places that keep one value: a sum, a box, a count. They go row by row and from left to right.
use Rattle.std.specs.Prelude.{ℕ, zero, suc}

-- a step for each number below n
abbrev pub steps_upto : {A : Type 0} → (A → ℕ → A) → A → ℕ → A
steps_upto step a zero = a
steps_upto step a (suc n) = step (steps_upto step a n) n

-- a step for each column and row before column x of row y, where there are so many columns
unfoldable pub fold_upto : {A : Type 0} → (A → ℕ → ℕ → A) → A → ℕ → ℕ → ℕ → A
fold_upto step a width x y = steps_upto (λ b u. step b u y) (steps_upto (λ b v. steps_upto (λ c u. step c u v) b width) a y) x
