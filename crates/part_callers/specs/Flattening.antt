-- A grid whose windows are flattened one after the other.
use Rattle.std.specs.Prelude.{List, [], ◌∷◌}
use Rattle.image_model.specs.Grid.{Grid, grid, patch}
use Rattle.image_model.specs.Windows.{Window}

-- a grid with its first pixel at every place
abbrev pub flat : {T : Type 0} → Grid T → Grid T
flat g = grid g.width g.height (λ _ _. g.pixel 0 0)

-- a grid with the pixel at a window's corner at each of the window's places
abbrev pub flattened : {T : Type 0} → Grid T → Window → Grid T
flattened g w = patch g w.left w.top (grid w.width w.height (λ _ _. g.pixel w.left w.top))

-- the same for each window of a list, one after the other
abbrev pub all_flattened : {T : Type 0} → Grid T → List Window → Grid T
all_flattened g [] = g
all_flattened g (w ∷ windows) = all_flattened (flattened g w) windows
