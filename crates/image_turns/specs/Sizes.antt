-- The sizes that an image needs to be turned.
use Rattle.std.specs.Prelude.{ℕ, List, length, ◌≡◌, ◌+◌, ◌*◌, ◌<◌, ◌≤◌}
use Rattle.image_model.specs.Layout.{Fits}
use Rattle.image_shape.specs.Shape.{shape_width, shape_height, shaped}
use Rattle.image_shape.specs.declared.shape.Shape.{Shape}
use Rattle.image_turns.specs.Oriented.{oriented_width, oriented_height}
use Rattle.image_turns.specs.declared.pixel_turning.Origin.{Origin}
use Rattle.image_turns.specs.declared.pixel_turning.RowPart.{RowPart}

-- the cells of two images fit their shapes, and each is as wide as the other is high
pub record AreCrosswise {T : Type 0} (cells : List T) (s : Shape) (source : List T) (t : Shape) : Type 0 where
  pub fits : Fits (shaped cells s)
  pub source_fits : Fits (shaped source t)
  pub columns : shape_width s ≡ shape_height t
  pub lines : shape_height s ≡ shape_width t

-- the cells of an image fit its shape, which is as wide as high
pub record IsSquare {T : Type 0} (cells : List T) (s : Shape) : Type 0 where
  pub fits : Fits (shaped cells s)
  pub square : shape_width s ≡ shape_height s

-- so does one with as many columns as rows, whose pixels have so many cells each
pub record IsPixelSquare {T : Type 0} (size : ℕ) (cells : List T) (s : Shape) : Type 0 where
  pub some : 0 < size
  pub fits : Fits (shaped cells s)
  pub square : shape_width s ≡ shape_height s * size

-- two images of pixels of so many cells fit, and the first has the size that the other one gets
pub record AreOriented {T : Type 0} (size : ℕ) (cells : List T) (s : Shape) (source : List T) (from : Origin) : Type 0 where
  pub some : 0 < size
  pub fits : Fits (shaped cells s)
  pub source_fits : Fits (shaped source from.shape)
  pub source_width : shape_width from.shape ≡ from.columns * size
  pub width : shape_width s ≡ oriented_width from.orientation from.columns (shape_height from.shape) * size
  pub height : shape_height s ≡ oriented_height from.orientation from.columns (shape_height from.shape)

-- the cells are those of a part of a row, of an image that comes from a source
pub record ArePartOfRow {T : Type 0} (size : ℕ) (cells : List T) (part : RowPart) (source : List T) (from : Origin) : Type 0 where
  pub some : 0 < size
  pub many : length cells ≡ part.count * size
  pub source_fits : Fits (shaped source from.shape)
  pub source_width : shape_width from.shape ≡ from.columns * size
  pub across : part.left + part.count ≤ oriented_width from.orientation from.columns (shape_height from.shape)
  pub down : part.y < oriented_height from.orientation from.columns (shape_height from.shape)

-- two blocks have room for so many rows, each of as many pixels of so many cells, and a row has so many cells
pub record AreBlocks {T : Type 0} (size side width : ℕ) (upper lower : List T) : Type 0 where
  pub some : 0 < side
  pub wide : width ≡ side * size
  pub room : width * side ≤ length upper
  pub lower_room : width * side ≤ length lower
