-- Where there is no pixel, nothing changes.
use Rattle.std.proofs.Common.{◌-◌, arith}
use Rattle.image_model.specs.Flips.{flipped}
use Rattle.image_model.specs.Grid.{grid_of}
use Rattle.image_model.specs.Layout.{pixel}
use Rattle.image_model.proofs.Grids.{same_grids}
use Rattle.image_model.proofs.Rows.{no_column}
use Rattle.image_shape.specs.Shape.{shaped, shaped_grid}
use Rattle.image_turns.proofs.flipping.flip_rows.Goals as goal

pub returns-then-row_count-eq0-clause-grid : goal.returns-then-row_count-eq0-clause-grid
unfolding grid_of flipped
returns-then-row_count-eq0-clause-grid g c =
    let s = c.args.shape in
    let l = shaped c.args.cells.now s in
    same_grids s.width s.height (pixel l) (λ u v. (shaped_grid c.args.cells.now s).pixel u (s.height - 1 - v))
    (λ u v column line. absurd (omega (arith, column, no_column s.width s.height v (omega (arith, c.row_count.ensures.value)) line)))
