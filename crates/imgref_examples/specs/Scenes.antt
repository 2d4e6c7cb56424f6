-- What a user's own calls by places make: blends, discs and halves.
use Rattle.std.specs.Prelude.{ℕ, ◌+◌, ◌-◌, ◌*◌, ◌/◌, Bool, nat_le, Option, sum}
use Rattle.image_model.specs.Grid.{Grid, view}
use Rattle.image_model.specs.Rows.{grid_pixels}

-- alpha parts of 255 of one pixel, and the rest of the other, rounded down
abbrev pub mix_of : ℕ → ℕ → ℕ → ℕ
mix_of alpha p q = (q * alpha + p * (255 - alpha)) / 255

-- the distance of two numbers
abbrev pub apart : ℕ → ℕ → ℕ
apart m n = (m - n) + (n - m)

-- whether a place is in the disc of a radius about a place
unfoldable pub in_disc : ℕ → ℕ → ℕ → ℕ → ℕ → Bool
in_disc left top radius x y = nat_le (apart x left * apart x left + apart y top * apart y top) (radius * radius)

-- a ramp from 0 in the first column towards 255
abbrev pub ramp_at : ℕ → ℕ → ℕ
ramp_at width x = 255 * x / width

-- what is at column x of row y of an image turned clockwise: column y of the row that is x rows above the last of so many
abbrev pub turned_pixel : {T : Type 0} → ℕ → Grid T → ℕ → ℕ → Option T
turned_pixel height g x y = g.pixel y (height - 1 - x)

-- the mean of two by two pixels, rounded down
abbrev pub mean_of_four : Grid ℕ → ℕ → ℕ → ℕ
mean_of_four g x y = sum (grid_pixels (view g (2 * x) (2 * y) 2 2)) / 4
