-- An image after its first band is filled.
use Rattle.std.specs.Prelude.{◌≡◌, ℕ, min}
use Rattle.image_model.specs.Layout.{Layout, SameOutside}
use Rattle.image_model.specs.Grid.{grid_of, patch, uniform}

-- one value in the rows of the first band, and the rest as before
pub record HasFirstBand {T : Type 0} (old : Layout T) (band_height : ℕ) (value : T) (new : Layout T) : Type 0 where
  pub grid : grid_of new ≡ patch (grid_of old) 0 0 (uniform old.width (min band_height old.height) value)
  pub outside : SameOutside old new
