-- Images upside down.
use Rattle.std.specs.Prelude.{ℕ, ◌-◌, nat_lt, ◌||◌, if◌then◌else◌}
use Rattle.image_model.specs.Grid.{Grid, grid}

-- where row v of h rows comes from, once the first n rows and the last n rows are exchanged
abbrev pub flipped_row : ℕ → ℕ → ℕ → ℕ
flipped_row h n v = if nat_lt v n || nat_lt (h - 1 - v) n then h - 1 - v else v

-- the first n rows and the last n rows are exchanged, the first with the last and so on
unfoldable pub flipped_upto : {T : Type 0} → ℕ → Grid T → Grid T
flipped_upto n g = grid g.width g.height (λ u v. g.pixel u (flipped_row g.height n v))

-- the first row is the last one, and so on
unfoldable pub flipped : {T : Type 0} → Grid T → Grid T
flipped g = grid g.width g.height (λ u v. g.pixel u (g.height - 1 - v))
