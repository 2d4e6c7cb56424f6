-- Pixels that a closure makes from their places, one after the other.
use Rattle.std.specs.Prelude.{◌≡◌, ℕ, ◌+◌, ◌*◌, ◌<◌, List, length, slice_get, Some}

-- the list goes on with as many results, by their numbers
pub record AddsRow {T : Type 0} (answers : ℕ → T → Type 0) (old new : List T) (width : ℕ) : Type 0 where
  pub as_many : length new ≡ length old + width
  pub still : (k : ℕ) → k < length old → slice_get new k ≡ slice_get old k
  pub each : (x : ℕ) (p : T) → x < width → slice_get new (length old + x) ≡ Some p → answers x p

-- the rows of a size, one after the other, are results for their places
pub record AreMade {T : Type 0} (answers : ℕ → ℕ → T → Type 0) (width height : ℕ) (pixels : List T) : Type 0 where
  pub as_many : length pixels ≡ height * width
  pub each : (x y : ℕ) (p : T) → x < width → y < height → slice_get pixels (y * width + x) ≡ Some p → answers x y p
