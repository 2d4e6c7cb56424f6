-- Digits.
use Rattle.std.specs.Prelude.{ℕ, ◌≤◌, ◌+◌, ◌%◌, Bool, nat_lt}

-- a byte is a digit
pub record IsDigit (byte : ℕ) : Type 0 where
  pub low : 48 ≤ byte
  pub high : byte ≤ 57

-- whether a byte is no digit: the ten from '0' on are digits, where 0 comes after 255
abbrev pub is_other : ℕ → Bool
is_other byte = nat_lt 9 ((byte + 208) % 256)
