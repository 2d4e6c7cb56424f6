-- Cells that are taken from other cells, each by its number.
use Rattle.std.specs.Prelude.{◌≡◌, ℕ, ◌<◌, ◌-◌, List, length, slice_get, min, nat_le, nat_lt, ◌&&◌, if◌then◌else◌}

-- each cell is the one of the source whose number `from` gives
pub record AreGathered {T : Type 0} (from : ℕ → ℕ) (source new : List T) : Type 0 where
  pub each : (k : ℕ) → k < length new → slice_get new k ≡ slice_get source (from k)

-- how far cell k of n is from the nearer end
abbrev pub from_end : ℕ → ℕ → ℕ
from_end n k = min k (n - 1 - k)

-- where cell k of n comes from, once the cells that are at least `from` and less than `upto` from an end have changed places, the first with the last
abbrev pub mirrored_place : ℕ → ℕ → ℕ → ℕ → ℕ
mirrored_place n from upto k = if nat_le from (from_end n k) && nat_lt (from_end n k) upto then n - 1 - k else k
