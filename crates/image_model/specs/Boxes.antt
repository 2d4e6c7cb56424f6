-- Boxes around the places that show one value: the least window with all of them, and the sides of a box that a loop over places has found so far.
use Rattle.std.specs.Prelude.{◌≡◌, ◌≢◌, ℕ, ◌+◌, ◌<◌, ◌≤◌, Bool, false, if◌then◌else◌, min, max, Some}
use Rattle.std.specs.Option.{option_map_or}
use Rattle.image_model.specs.Layout.{Layout, pixel}
use Rattle.image_model.specs.Grid.{Grid}
use Rattle.image_model.specs.Folds.{fold_upto}
use Rattle.image_model.specs.Windows.{Window}

-- ---- by the grid

-- no place shows the value
pub record IsNowhere {T : Type 0} (g : Grid T) (value : T) : Type 0 where
  pub nowhere : (x y : ℕ) → g.pixel x y ≢ Some value

-- each place that shows the value is in the window
abbrev pub HasAll : {T : Type 0} → Grid T → T → Window → Type 0
HasAll g value w = (x y : ℕ) → g.pixel x y ≡ Some value → (w.left ≤ x) × (x < w.left + w.width) × (w.top ≤ y) × (y < w.top + w.height)

-- one window reaches at least as far as another on each side
abbrev pub Covers : Window → Window → Type 0
Covers v w = (v.left ≤ w.left) × (w.left + w.width ≤ v.left + v.width) × (v.top ≤ w.top) × (w.top + w.height ≤ v.top + v.height)

-- the window has all these places, and each window that has them all covers it
pub record IsBoundingBox {T : Type 0} (g : Grid T) (value : T) (w : Window) : Type 0 where
  pub has_all : HasAll g value w
  pub least : (v : Window) → HasAll g value v → Covers v w

-- ---- as a loop finds it

-- the first column of a box and its first row, and the column after its last and the row after its last
pub record Sides : Type 0 where
  pub left : ℕ
  pub top : ℕ
  pub right : ℕ
  pub bottom : ℕ

-- these sides
abbrev pub sides : ℕ → ℕ → ℕ → ℕ → Sides
sides left top right bottom = record { left = left; top = top; right = right; bottom = bottom }

-- whether a place shows the value, by a test of equality
abbrev pub shows : {T : Type 0} → (T → T → Bool) → Layout T → T → ℕ → ℕ → Bool
shows eq l value x y = option_map_or (λ p. eq p value) (pixel l x y) false

-- the sides with a place
abbrev pub with_place : Sides → ℕ → ℕ → Sides
with_place s x y = sides (min s.left x) (min s.top y) (max s.right (x + 1)) (max s.bottom (y + 1))

-- the sides of the places with the value before column x of row y; while there is none, the box ends before it begins
unfoldable pub sides_upto : {T : Type 0} → (T → T → Bool) → Layout T → T → ℕ → ℕ → Sides
sides_upto eq l value x y = fold_upto (λ s u v. if shows eq l value u v then with_place s u v else s) (sides l.width l.height 0 0) l.width x y

-- the sides of all such places
unfoldable pub sides_of : {T : Type 0} → (T → T → Bool) → Layout T → T → Sides
sides_of eq l value = sides_upto eq l value 0 l.height
