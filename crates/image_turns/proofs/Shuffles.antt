-- Blocks of 16 by 16 cells whose columns become rows, and images that are read row by row.
use Rattle.std.proofs.Common.{◌≡◌, ℕ, ◌+◌, ◌*◌, ◌<◌, Bool, true, false, List, length, sym, ap, ◌∙◌, arith}
use Rattle.std.specs.List.{slice_get}
use Rattle.image_model.specs.Layout.{layout, pixel}
use Rattle.image_model.specs.Grid.{grid_of}
use Rattle.image_model.specs.Turns.{transposed}
use Rattle.image_model.proofs.Grids.{pixel_at, same_grids}
use Rattle.image_shape.specs.Shape.{shaped_grid}
use Rattle.image_shape.specs.declared.shape.Shape.{Shape}
use Rattle.image_turns.specs.Blocks.{across_place, block_grid, line_read}
use Rattle.image_writes.specs.Gathered.{AreGathered}

-- the row that is read is one of the rows
pub line_within : (back : Bool) (height y : ℕ) → y < height → line_read back height y < height
line_within true height y line = omega (arith, line)
line_within false height y line = line

-- where a cell comes from, once columns are rows
across_at : (u v : ℕ) → u < 16 → across_place (v * 16 + u) ≡ u * 16 + v
across_at u v column = omega (arith, column)

-- a shape of a block sees its grid
pub as_block : {T : Type 0} (s : Shape) → s.width ≡ 16 → s.height ≡ 16 → s.stride ≡ 16 → (cells : List T) → shaped_grid cells s ≡ block_grid cells
as_block s wide high apart cells = λ i. grid_of (layout cells (wide i) (high i) (apart i))

module _ {T : Type 0} (old new : List T) (many : length new ≡ 256) (made : AreGathered across_place old new) where
  place_within : (u v : ℕ) → u < 16 → v < 16 → v * 16 + u < 256
  place_within u v column line = omega (arith, column, line)

  pub block_transposed : block_grid new ≡ transposed (block_grid old)
  unfolding grid_of transposed
  block_transposed =
      same_grids 16 16 (pixel (layout new 16 16 16)) (λ u v. (block_grid old).pixel v u)
      (λ u v column line.
      made.each (v * 16 + u) (omega (arith, place_within u v column line, many))
      ∙ ap (slice_get old) (across_at u v column)
      ∙ sym (pixel_at (layout old 16 16 16) v u line column))
