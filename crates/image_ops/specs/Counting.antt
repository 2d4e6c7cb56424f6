-- Counts of the values for which a closure returns true.
use Rattle.std.specs.Prelude.{◌≡◌, ℕ, ◌≤◌, Bool, List, length, count_by}
use Rattle.std.specs.Borrow.{Bor}

-- the closure returns what a test of the value gives
abbrev pub Decides : {T : Type 0} → (Bor T → Bool → Type 0) → (T → Bool) → Type 0
Decides {T} post test = (value : Bor T) (returned : Bool) → post value returned → returned ≡ test value.now

-- so many of the values pass each test that the closure decides
pub record IsCount {T : Type 0} (post : Bor T → Bool → Type 0) (values : List T) (count : ℕ) : Type 0 where
  pub within : count ≤ length values
  pub passes : (test : T → Bool) → Decides post test → count ≡ count_by test values
