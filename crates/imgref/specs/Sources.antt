-- Images whose pixels a closure makes from those of another image.
use Rattle.std.specs.Prelude.{◌≡◌, ℕ, ◌<◌, Some}
use Rattle.image_model.specs.Layout.{Layout, pixel}
use Rattle.image_model.specs.Grid.{grid_of}
use Rattle.image_model.specs.Mapped.{mapped}

-- a call with each pixel of an image is allowed
abbrev pub TakesPixelsOf : {U : Type 0} → (U → Type 0) → Layout U → Type 0
TakesPixelsOf {U} pre source = (x y : ℕ) (q : U) → x < source.width → y < source.height → pixel source x y ≡ Some q → pre q

-- each place has one of the results for the other image's pixel there
abbrev pub HasAnswersFrom : {T U : Type 0} → (U → T → Type 0) → Layout U → Layout T → Type 0
HasAnswersFrom {T} {U} answers source new = (x y : ℕ) (q : U) (r : T) → x < source.width → y < source.height → pixel source x y ≡ Some q → pixel new x y ≡ Some r → answers q r

-- for every function that gives the results, the grid is the other image's changed by it
abbrev pub IsMappedFrom : {T U : Type 0} → (U → T → Type 0) → Layout U → Layout T → Type 0
IsMappedFrom {T} {U} answers source new = (f : U → T) → ((x y : ℕ) (q : U) (r : T) → x < source.width → y < source.height → pixel source x y ≡ Some q → answers q r → r ≡ f q) → grid_of new ≡ mapped f (grid_of source)
