-- What kind of change one is.
use Rattle.std.specs.Prelude.{Bool, true, false}
use Rattle.image_commands.specs.declared.changes.Change.{Change}
use Rattle.image_commands.specs.declared.changes.Change.TheVariants.{Fill, Blur, Flip}

-- whether a change is a blur
abbrev pub is_blur : {V : Type 0} → Change V → Bool
is_blur (Blur w across down bytes) = true
is_blur _ = false

-- a change that may show a pixel, or something of it, at another place
abbrev pub spreads : {V : Type 0} → Change V → Bool
spreads (Fill w value) = false
spreads (Flip axes) = false
spreads _ = true

abbrev pub fills : {V : Type 0} → Change V → Bool
fills (Fill w value) = true
fills _ = false
