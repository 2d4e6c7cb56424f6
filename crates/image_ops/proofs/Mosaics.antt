-- An image that becomes its mosaic row by row.
use Rattle.std.proofs.Common.{◌≡◌, ℕ, ◌+◌, ◌-◌, ◌*◌, ◌%◌, ◌<◌, List, ◌++◌, take, drop, Option, sym, ap, subst, ◌∙◌, arith, ap₂}
use Rattle.image_model.specs.Layout.{Fits, pixel}
use Rattle.image_model.specs.Grid.{Grid, grid, grid_of}
use Rattle.image_model.specs.Rows.{row_count}
use Rattle.image_model.specs.Shifts.{shifted}
use Rattle.image_model.specs.Tiles.{tile_start}
use Rattle.image_shape.specs.Shape.{shaped, shaped_grid}
use Rattle.image_shape.specs.declared.shape.Shape.{Shape}
use Rattle.image_shape.specs.declared.window.Stretch as part
use Rattle.image_model.proofs.Grids.{same_grids, at_place, pixel_at}
use Rattle.image_writes.proofs.RowsWritten.{RowsDone, RowRange, cell_of_row, row_written, row_copied, becomes_table}
use Rattle.image_writes.specs.Mosaic.{mosaic, mosaic_by, shown_column, IsSpreadBy}
use Rattle.image_writes.specs.Written.{Becomes}
use Rattle.image_writes.proofs.Corners.{own_start, start_before}
use Rattle.image_writes.proofs.Parts.{of_one_cell, of_one_pixel, shown_before}

-- a tile of one pixel shows that pixel
module _ {T : Type 0} (size w h : ℕ) (f : ℕ → ℕ → Option T) where
  pub of_single_tiles : grid w h f ≡ mosaic_by size 1 1 (grid w h f)
  of_single_tiles = same_grids w h f _ (λ x y column line. sym (ap₂ (grid w h f).pixel (of_one_pixel size x) (own_start y) ∙ at_place w h f x y column line))

-- cells that are pixels themselves
pub mosaic_of_cells : {T : Type 0} (tw th : ℕ) (g : Grid T) → mosaic_by 1 tw th g ≡ mosaic tw th g
mosaic_of_cells tw th g = same_grids g.width g.height _ _ (λ x y column line. ap (λ u. g.pixel u (tile_start th y)) (of_one_cell tw x))

module _ {T : Type 0} (old : List T) (s : Shape) (size tw th : ℕ) where
  -- the old cell that a column of a row shows
  abbrev in_row : ℕ → ℕ → Option T
  in_row x top = pixel (shaped old s) (shown_column size tw x) top

  -- what the mosaic shows at a place
  abbrev pub corner_of : ℕ → ℕ → Option T
  corner_of x y = in_row x (tile_start th y)

  -- the first y rows show it
  abbrev pub Shown : List T → ℕ → Type 0
  Shown now y = RowsDone (λ x j p. p ≡ corner_of x j) old now s y

  module _ (now : List T) (y : ℕ) (so : Shown now y) (fits : Fits (shaped old s)) (below : y < row_count s.width s.height) where
    -- with the first row of a tile spread
    pub row_spread : (from upto : ℕ) (at : RowRange s y from upto) (line : List T) → y % th ≡ 0
        → IsSpreadBy size tw (take (upto - from) (drop from now)) line → Shown (take from now ++ (line ++ drop (upto - from) (drop from now))) (y + 1)
    row_spread from upto at line first spread =
        let own : y ≡ tile_start th y = omega (arith, first) in
        row_written _ old now s y so fits below from upto at line spread.as_many
        (λ x column here.
        spread.each x (omega (arith, here, spread.as_many))
        ∙ cell_of_row _ old now s y so from upto (shown_column size tw x) at (omega (arith, column, shown_before size tw x))
        ∙ ap (in_row x) own)

    -- with another row of it copied from the row above
    pub row_repeated : (above row : part.Stretch) → 0 < th → 0 < y % th → above.start ≡ row.start - s.stride → above.len ≡ s.width → row.start ≡ y * s.stride
        → Shown (shifted now above.start above.len row.start) (y + 1)
    row_repeated above row high later at count from =
        row_copied corner_of old now s y so fits below above row (omega (arith, later)) (λ x. ap (in_row x) (start_before th y high later)) at count from

  -- all rows show it
  pub mosaic_becomes : (new : List T) (y : ℕ) → Shown new y → y ≡ row_count s.width s.height → Becomes s old new (mosaic_by size tw th (shaped_grid old s))
  unfolding grid_of
  mosaic_becomes new y so all =
      subst (Becomes s old new)
      (same_grids s.width s.height corner_of _ (λ x j column line. sym (pixel_at (shaped old s) (shown_column size tw x) (tile_start th j) (omega (arith, column, shown_before size tw x)) (omega (arith, line)))))
      (becomes_table corner_of old new s y so all)
