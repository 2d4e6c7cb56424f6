-- Grids: what an image shows at each place, with no cells, stride or padding.
use Rattle.std.specs.Prelude.{◌≡◌, ℕ, ◌+◌, ◌-◌, Bool, ◌&&◌, nat_lt, nat_le, if◌then◌else◌, Option, Some, None, IsTrue, List, length, slice_get, unwrap_or}
use Rattle.image_model.specs.Layout.{Layout, pixel as pixel_of}

-- a width, a height, and the content of each place: a pixel, or nothing outside the size
pub record Grid (T : Type 0) : Type 0 where
  pub width : ℕ
  pub height : ℕ
  pub pixel : ℕ → ℕ → Option T

-- whether column x of row y is a place of this size
abbrev pub is_place : ℕ → ℕ → ℕ → ℕ → Bool
is_place width height x y = nat_lt x width && nat_lt y height

-- the grid of this size with these pixels at its places, and nothing elsewhere: each grid is made by this
abbrev pub grid : {T : Type 0} → ℕ → ℕ → (ℕ → ℕ → Option T) → Grid T
grid width height pixels = record { width = width; height = height; pixel = λ x y. if is_place width height x y then pixels x y else None }

-- the grid of a layout: each place has its pixel
unfoldable pub grid_of : {T : Type 0} → Layout T → Grid T
grid_of l = grid l.width l.height (pixel_of l)

-- the pixel at column x of row y, or 0 where there is no such place
abbrev pub shown : Grid ℕ → ℕ → ℕ → ℕ
shown g x y = unwrap_or (g.pixel x y) 0

-- the view through a window: each of its places has the pixel at the window's corner plus that place
unfoldable pub view : {T : Type 0} → Grid T → ℕ → ℕ → ℕ → ℕ → Grid T
view g left top width height = grid width height (λ x y. g.pixel (left + x) (top + y))

-- whether column x of row y is in the rectangle of this size at a corner
abbrev pub covers : ℕ → ℕ → ℕ → ℕ → ℕ → ℕ → Bool
covers left top width height x y = nat_le left x && (nat_le top y && is_place (left + width) (top + height) x y)

-- a grid patched with another one at a corner: the rectangle there is the other grid, everything else is as before
unfoldable pub patch : {T : Type 0} → Grid T → ℕ → ℕ → Grid T → Grid T
patch g left top h = grid g.width g.height (λ x y. if covers left top h.width h.height x y then h.pixel (x - left) (y - top) else g.pixel x y)

-- the grid with one value at every place
unfoldable pub uniform : {T : Type 0} → ℕ → ℕ → T → Grid T
uniform width height value = grid width height (λ _ _. Some value)

-- the grid of one row with these pixels
unfoldable pub one_row : {T : Type 0} → List T → Grid T
one_row pixels = grid (length pixels) 1 (λ x _. slice_get pixels x)

-- equal pixels, or nothing in both
abbrev pub AlikePixels : {T : Type 0} → (T → T → Bool) → Option T → Option T → Type 0
AlikePixels eq None None = Unit {0}
AlikePixels eq (Some a) (Some b) = IsTrue (eq a b)
AlikePixels eq _ _ = ⊥

-- grids agree if they have the same size, and equal pixels at each place
pub record Agree {T : Type 0} (eq : T → T → Bool) (g h : Grid T) : Type 0 where
  pub same_width : g.width ≡ h.width
  pub same_height : g.height ≡ h.height
  pub alike : (x y : ℕ) → AlikePixels eq (g.pixel x y) (h.pixel x y)
