-- Images whose pixels are changed one by one, by a function or by the results of a closure.
use Rattle.std.specs.Prelude.{◌≡◌, ℕ, ◌<◌, Some}
use Rattle.std.specs.Option.{option_map}
use Rattle.image_model.specs.Layout.{Layout, pixel}
use Rattle.image_model.specs.Grid.{Grid, grid, grid_of}

-- every pixel is changed by f
unfoldable pub mapped : {T U : Type 0} → (T → U) → Grid T → Grid U
mapped f g = grid g.width g.height (λ x y. option_map f (g.pixel x y))

-- each place has one of the results for the old pixel
abbrev pub HasAnswers : {T : Type 0} → (T → T → Type 0) → Layout T → Layout T → Type 0
HasAnswers {T} answers old new = (x y : ℕ) (p q : T) → x < old.width → y < old.height → pixel old x y ≡ Some p → pixel new x y ≡ Some q → answers p q

-- for every function that gives the results for the old pixels, the grid is the old one changed by it
abbrev pub IsMapped : {T : Type 0} → (T → T → Type 0) → Layout T → Layout T → Type 0
IsMapped {T} answers old new = (f : T → T) → ((x y : ℕ) (p q : T) → x < old.width → y < old.height → pixel old x y ≡ Some p → answers p q → q ≡ f p) → grid_of new ≡ mapped f (grid_of old)
