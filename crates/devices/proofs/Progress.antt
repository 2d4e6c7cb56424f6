-- How far a loop over bytes has come.
use Rattle.std.proofs.Common.{◌≡◌, ◌≤◌, ℕ, List, length, take}

-- this holds of so many of the bytes, and no call has failed
pub record HaveMoved (moved : List ℕ → Type 0) (bytes : List ℕ) (count old new : ℕ) : Type 0 where
  pub within : count ≤ length bytes
  pub first : moved (take count bytes)
  pub unfailing : new ≡ old
