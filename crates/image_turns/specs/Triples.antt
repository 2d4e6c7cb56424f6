-- Rows of pixels of three cells whose pixels change places.
use Rattle.std.specs.Prelude.{ℕ, ◌+◌, ◌-◌, ◌*◌, ◌/◌, ◌%◌, nat_le, nat_lt, ◌&&◌, if◌then◌else◌}
use Rattle.image_writes.specs.Gathered.{from_end}

-- where cell k of n comes from, if the pixels are in the opposite order
abbrev pub triple_back : ℕ → ℕ → ℕ
triple_back n k = (n / 3 - 1 - k / 3) * 3 + k % 3

-- the same, once the pixels whose cells are at least `from` and less than `upto` from an end have changed places, the first with the last
abbrev pub mirrored_triple : ℕ → ℕ → ℕ → ℕ → ℕ
mirrored_triple n from upto k = if nat_le from (from_end n k) && nat_lt (from_end n k) upto then triple_back n k else k
