-- The cells of a window of an image, by the numbers of the first and the last.
use Rattle.std.specs.Prelude.{◌≡◌, ℕ, ◌-◌, ◌≤◌}
use Rattle.image_model.specs.Layout.{Reaches}
use Rattle.image_model.specs.Windows.{Window, Stretch, IsInside, exact_stretch}
use Rattle.image_shape.specs.declared.shape.Shape.{Shape}
use Rattle.image_shape.specs.Shape.{shape_width, shape_height, shape_stride}

-- the cells from one number up to another, as a stretch
abbrev pub cells_upto : ℕ → ℕ → Stretch
cells_upto from upto = record { start = from; len = upto - from }

-- a window that is inside a shape of so many cells, with its own shape and the numbers of its cells
pub record IsPart (count : ℕ) (outer inner : Shape) (w : Window) (from upto : ℕ) : Type 0 where
  pub holds_width : shape_width outer ≤ shape_stride outer
  pub fits : Reaches count (shape_width outer) (shape_height outer) (shape_stride outer)
  pub inside : IsInside (shape_width outer) (shape_height outer) w
  pub width : shape_width inner ≡ w.width
  pub height : shape_height inner ≡ w.height
  pub stride : shape_stride inner ≡ shape_stride outer
  pub is : cells_upto from upto ≡ exact_stretch (shape_stride outer) w
