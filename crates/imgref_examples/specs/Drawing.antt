-- What writes at three places leave.
use Rattle.std.specs.Prelude.{◌≡◌, ℕ}
use Rattle.image_model.specs.Layout.{Layout, SameOutside}
use Rattle.image_model.specs.Grid.{grid_of, patch, uniform}

-- the first two pixels of the first row are 1 and 2, and the second and the third of the second row have a value
pub record DrawsThree (old new : Layout ℕ) (value : ℕ) : Type 0 where
  pub grid : grid_of new ≡ patch (patch (patch (grid_of old) 0 0 (uniform 1 1 1)) 1 0 (uniform 1 1 2)) 1 1 (uniform 2 1 value)
  pub outside : SameOutside old new
