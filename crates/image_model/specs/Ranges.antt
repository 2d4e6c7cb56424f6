-- Bounds of the pixels, and what a closure ensures of each.
use Rattle.std.specs.Prelude.{◌≡◌, ℕ, ◌<◌, Some}
use Rattle.image_model.specs.Layout.{Layout, pixel}
use Rattle.image_model.specs.Grid.{Grid}

-- each pixel is below a bound
pub record AreBelow (bound : ℕ) (g : Grid ℕ) : Type 0 where
  pub each : (x y p : ℕ) → g.pixel x y ≡ Some p → p < bound

-- what a call with a pixel ensures holds of each pixel
abbrev pub HoldsOfEach : {T : Type 0} → (T → Unit {0} → Type 0) → Layout T → Type 0
HoldsOfEach {T} answers l = (x y : ℕ) (p : T) → x < l.width → y < l.height → pixel l x y ≡ Some p → answers p tt
