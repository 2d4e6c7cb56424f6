-- What is written to a shape.
use Rattle.std.specs.Prelude.{List, ◌≡◌}
use Rattle.image_model.specs.Layout.{Fits, SameOutside}
use Rattle.image_model.specs.Grid.{Grid}
use Rattle.image_shape.specs.Shape.{shape_width, shape_height, shaped, shaped_grid}
use Rattle.image_shape.specs.declared.shape.Shape.{Shape}

-- the cells of two images fit their shapes, and these have one size
pub record HaveSameSize {T : Type 0} (cells : List T) (s : Shape) (source : List T) (t : Shape) : Type 0 where
  pub fits : Fits (shaped cells s)
  pub source_fits : Fits (shaped source t)
  pub width : shape_width s ≡ shape_width t
  pub height : shape_height s ≡ shape_height t

-- every pixel becomes that of a grid, and everything else stays
pub record Becomes {T : Type 0} (s : Shape) (old new : List T) (g : Grid T) : Type 0 where
  pub grid : shaped_grid new s ≡ g
  pub outside : SameOutside (shaped old s) (shaped new s)
