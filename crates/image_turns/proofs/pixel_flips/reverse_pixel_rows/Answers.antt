-- The rows so far have changed, and nothing else.
use Rattle.std.proofs.Common.{◌≡◌, ◌+◌, ◌-◌, ◌*◌, ◌/◌, ◌%◌, sym, ap, ◌∙◌, arith}
use Rattle.image_model.specs.Grid.{grid, grid_of}
use Rattle.image_model.specs.Rows.{row_count}
use Rattle.image_shape.specs.Shape.{shaped}
use Rattle.image_turns.proofs.Crossing.{row_from, from_rows}
use Rattle.image_writes.proofs.PixelsOfRows.{pixels_of_row}
use Rattle.image_turns.proofs.PixelFlips.{reversed_place, reversed_within}
use Rattle.image_writes.proofs.RowsWritten.{row_range, row_written, shows_table, outside_stays}
use Rattle.image_turns.proofs.pixel_flips.reverse_pixel_rows.Goals as goal

pub loop-y-preserved : goal.loop-y-preserved
loop-y-preserved g c =
    let a = c.args in
    let made = c.reverse_pixels in
    let at = row_range a.shape c.loop-y.y c.range.ensures.start c.range.ensures.end c.row-row.ensures.start c.row-row.ensures.len in
    row_written _ _ _ a.shape c.loop-y.y c.loop-y.invariant c.requires.fits (omega (arith, c.row_count-y-end.ensures.value)) _ _ at made.new.row made.ensures.as_many
    (row_from (reversed_place a.size a.columns) _ _ made.new.row a.shape c.loop-y.y _ _ c.loop-y.invariant at made.ensures.turned (λ x column. reversed_within a.size a.columns a.shape.width x c.requires.some c.requires.width column))

pub returns : goal.returns
unfolding grid_of
returns g c =
    let a = c.args in
    let g = grid_of (shaped a.cells.now a.shape) in
    let all : c.loop-y.y ≡ row_count a.shape.width a.shape.height = omega (arith, c.row_count-y-end.ensures.value) in
    record {
      grid =
          shows_table _ _ _ a.shape c.loop-y.y c.loop-y.invariant all
          ∙ from_rows (reversed_place a.size a.columns) (shaped a.cells.now a.shape) (λ x column. reversed_within a.size a.columns a.shape.width x c.requires.some c.requires.width column)
          ∙ ap (λ n. grid a.shape.width a.shape.height (λ x y. g.pixel ((n - 1 - x / a.size) * a.size + x % a.size) y)) (sym (pixels_of_row a.size a.columns a.shape.width c.requires.some c.requires.width));
      outside = outside_stays _ _ _ a.shape c.loop-y.y c.loop-y.invariant all;
    }
