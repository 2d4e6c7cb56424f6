-- Images whose pixels are changed by a function, row by row.
use Rattle.std.specs.Prelude.{ℕ, nat_lt, if◌then◌else◌}
use Rattle.std.specs.Option.{option_map}
use Rattle.image_model.specs.Grid.{Grid, grid}

-- every pixel of the first n rows is changed by f
unfoldable pub mapped_upto : {T : Type 0} → (T → T) → ℕ → Grid T → Grid T
mapped_upto f n g = grid g.width g.height (λ x y. if nat_lt y n then option_map f (g.pixel x y) else g.pixel x y)
