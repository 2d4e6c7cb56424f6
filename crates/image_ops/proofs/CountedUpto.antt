-- Counts that go on.
use Rattle.std.proofs.Common.{◌≡◌, ℕ, ◌+◌, ◌≤◌, Bool, List, length, count_by}
use Rattle.std.specs.Borrow.{Bor}
use Rattle.image_ops.specs.Counting.{Decides}

-- the values before these are counted
pub record IsCountedUpto {T : Type 0} (post : Bor T → Bool → Type 0) (values rest : List T) (count : ℕ) : Type 0 where
  pub within : count + length rest ≤ length values
  pub passes : (test : T → Bool) → Decides post test → count + count_by test rest ≡ count_by test values
