-- Turns by their numbers in the header.
use Rattle.std.specs.Prelude.{ℕ, ◌==◌, Bool, ◌&&◌, nat_le, if◌then◌else◌}
use Rattle.image_turns.specs.declared.pixel_turning.Orientation.{Orientation}
use Rattle.image_turns.specs.declared.pixel_turning.Orientation.TheVariants.{Right, Half, Left}

-- whether a number is that of a turn: so many quarters, clockwise
abbrev pub is_turn : ℕ → Bool
is_turn quarters = nat_le 1 quarters && nat_le quarters 3

-- the turn by so many quarters
abbrev pub turn_by : ℕ → Orientation
turn_by quarters = if quarters == 1 then Right else if quarters == 2 then Half else Left
