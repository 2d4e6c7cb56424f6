-- Rows that touch, as one row.
use Rattle.std.specs.Prelude.{◌≡◌, ◌*◌, ◌⊎◌}
use Rattle.image_shape.specs.declared.shape.Shape.{Shape}
use Rattle.image_shape.specs.Shape.{shape_width, shape_height, shape_stride}

-- the rows of a shape touch, and another shape has all of them as one row
pub record IsOneRow (s one : Shape) : Type 0 where
  pub touch : shape_stride s ≡ shape_width s
  pub width : shape_width one ≡ shape_width s * shape_height s
  pub height : shape_height one ≡ 1
  pub stride : shape_stride one ≡ shape_width s * shape_height s

-- two shapes, or all rows of each as one row
abbrev pub AreFewestRows : Shape → Shape → Shape → Shape → Type 0
AreFewestRows s t u v = ((u ≡ s) × (v ≡ t)) ⊎ (IsOneRow s u × IsOneRow t v)
