-- Numbers that are read a digit at a time, and digits after a point.
use Rattle.std.specs.Prelude.{ℕ, ◌+◌, ◌-◌, ◌*◌, ◌/◌, ◌^◌, ◌&&◌, Bool, nat_lt, nat_le, if◌then◌else◌, List, [], ◌∷◌, Option, Some, None, length}
use Rattle.std.specs.List.{list_all}

abbrev pub is_digit : ℕ → Bool
is_digit byte = nat_le 48 byte && nat_le byte 57

-- a number with one more digit, below 2 ^ 32
abbrev pub with_digit : Option ℕ → ℕ → Option ℕ
with_digit None digit = Some digit
with_digit (Some number) digit = if nat_lt (number * 10 + digit) (2 ^ 32) then Some (number * 10 + digit) else None

-- what digits are worth, where the first one counts so many
abbrev pub worth : ℕ → List ℕ → ℕ
worth unit [] = 0
worth unit (b ∷ bs) = (b - 48) * unit + worth (unit / 10) bs

-- the same of one digit up to so many
abbrev pub worth_of : ℕ → ℕ → List ℕ → Option ℕ
worth_of first most digits = if nat_lt 0 (length digits) && (nat_lt (length digits) (most + 1) && list_all is_digit digits) then Some (worth first digits) else None
