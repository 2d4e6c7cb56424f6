-- Division by a multiplication.
use Rattle.std.specs.Prelude.{ℕ, ◌+◌, ◌/◌, ◌^◌, nat_le, if◌then◌else◌}

-- the least number above the quotient of 2^47 by so many, where the square of these is below 2^31
abbrev pub factor_of : ℕ → ℕ
factor_of count = if nat_le count 46340 then 2 ^ 47 / count + 1 else 0
