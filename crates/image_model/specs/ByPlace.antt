-- Images whose pixels a closure makes from their places, or from the pixels of two images.
use Rattle.std.specs.Prelude.{◌≡◌, ℕ, ◌*◌, ◌/◌, ◌<◌, Some}
use Rattle.std.specs.Option.{option_map, option_zip}
use Rattle.image_model.specs.Layout.{Layout, pixel}
use Rattle.image_model.specs.Grid.{Grid, grid, grid_of}
use Rattle.image_model.specs.Tables.{table}

-- ---- by the place and the pixel

-- every pixel is changed by f, which takes its column and its row too
unfoldable pub mapped_places : {T U : Type 0} → (ℕ → ℕ → T → U) → Grid T → Grid U
mapped_places f g = grid g.width g.height (λ x y. option_map (f x y) (g.pixel x y))

-- a call with each place and its pixel is allowed
abbrev pub TakesEachPlace : {T : Type 0} → (ℕ → ℕ → T → Type 0) → Layout T → Type 0
TakesEachPlace {T} pre l = (x y : ℕ) (p : T) → x < l.width → y < l.height → pixel l x y ≡ Some p → pre x y p

-- each place has one of the results for it and its old pixel
abbrev pub HasPlaceAnswers : {T : Type 0} → (ℕ → ℕ → T → T → Type 0) → Layout T → Layout T → Type 0
HasPlaceAnswers {T} answers old new = (x y : ℕ) (p q : T) → x < old.width → y < old.height → pixel old x y ≡ Some p → pixel new x y ≡ Some q → answers x y p q

-- for every function that gives the results, the grid is the old one changed by it
abbrev pub IsMappedByPlace : {T : Type 0} → (ℕ → ℕ → T → T → Type 0) → Layout T → Layout T → Type 0
IsMappedByPlace {T} answers old new = (f : ℕ → ℕ → T → T) → ((x y : ℕ) (p q : T) → x < old.width → y < old.height → pixel old x y ≡ Some p → answers x y p q → q ≡ f x y p) → grid_of new ≡ mapped_places f (grid_of old)

-- ---- by the pixels of two images

-- every pixel of a grid is changed by f, which takes the other grid's pixel at its place too
unfoldable pub zipped : {T U V : Type 0} → (T → U → V) → Grid T → Grid U → Grid V
zipped f g h = grid g.width g.height (λ x y. option_map (λ p. f p.0 p.1) (option_zip (g.pixel x y) (h.pixel x y)))

-- a call with the pixels at each place is allowed
abbrev pub TakesBothPixels : {T U : Type 0} → (T → U → Type 0) → Layout T → Layout U → Type 0
TakesBothPixels {T} {U} pre l other = (x y : ℕ) (p : T) (q : U) → x < l.width → y < l.height → pixel l x y ≡ Some p → pixel other x y ≡ Some q → pre p q

-- each place has one of the results for the two pixels there
abbrev pub HasZipAnswers : {T U : Type 0} → (T → U → T → Type 0) → Layout T → Layout U → Layout T → Type 0
HasZipAnswers {T} {U} answers old other new = (x y : ℕ) (p : T) (q : U) (r : T) → x < old.width → y < old.height → pixel old x y ≡ Some p → pixel other x y ≡ Some q → pixel new x y ≡ Some r → answers p q r

-- for every function that gives the results, the grid is the two grids zipped by it
abbrev pub IsZipped : {T U : Type 0} → (T → U → T → Type 0) → Layout T → Layout U → Layout T → Type 0
IsZipped {T} {U} answers old other new = (f : T → U → T) → ((x y : ℕ) (p : T) (q : U) (r : T) → x < old.width → y < old.height → pixel old x y ≡ Some p → pixel other x y ≡ Some q → answers p q r → r ≡ f p q) → grid_of new ≡ zipped f (grid_of old) (grid_of other)

-- ---- by the place alone

-- a call with each place of a size is allowed
abbrev pub TakesPlacesOf : (ℕ → ℕ → Type 0) → ℕ → ℕ → Type 0
TakesPlacesOf pre width height = (x y : ℕ) → x < width → y < height → pre x y

-- the grid of this size that shows f of its column and its row at each place
unfoldable pub from_places : {T : Type 0} → ℕ → ℕ → (ℕ → ℕ → T) → Grid T
from_places width height f = table width height (λ x y. Some (f x y))

-- each place of a size has one of the results for it
abbrev pub HasResults : {T : Type 0} → (ℕ → ℕ → T → Type 0) → ℕ → ℕ → Layout T → Type 0
HasResults {T} answers width height new = (x y : ℕ) (q : T) → x < width → y < height → pixel new x y ≡ Some q → answers x y q

-- for every function that gives the results for the places of a size, the grid shows it
abbrev pub IsFromPlaces : {T : Type 0} → (ℕ → ℕ → T → Type 0) → ℕ → ℕ → Layout T → Type 0
IsFromPlaces {T} answers width height new = (f : ℕ → ℕ → T) → ((x y : ℕ) (q : T) → x < width → y < height → answers x y q → q ≡ f x y) → grid_of new ≡ from_places width height f

-- ---- by a place of another size

-- the number that is as far in one size as k is in another one, rounded down
abbrev pub scaled : ℕ → ℕ → ℕ → ℕ
scaled k from to = k * from / to
