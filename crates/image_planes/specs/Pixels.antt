-- Images of bytes in which a pixel has several of them, next to one another in a row.
use Rattle.std.specs.Prelude.{ℕ, List, ◌≡◌, ◌*◌, ◌/◌, ◌<◌}
use Rattle.image_model.specs.Layout.{Fits}
use Rattle.image_shape.specs.Shape.{shaped, shape_width}
use Rattle.image_shape.specs.declared.shape.Shape.{Shape}

-- the bytes fit the shape, whose rows have whole pixels of 1 to 8 bytes
pub record HavePixels (cells : List ℕ) (s : Shape) (size : ℕ) : Type 0 where
  pub fits : Fits (shaped cells s)
  pub some : 0 < size
  pub few : size < 9
  pub whole : shape_width s ≡ shape_width s / size * size
