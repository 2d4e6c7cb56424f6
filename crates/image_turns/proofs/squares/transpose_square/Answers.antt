-- A strip of all columns, or the square.
use Rattle.std.proofs.Common.{◌∙◌, arith}
use Rattle.image_model.specs.Grid.{grid_of}
use Rattle.image_model.specs.Layout.{pixel}
use Rattle.image_shape.specs.Shape.{shaped}
use Rattle.image_turns.proofs.SquareBlocks.{whole_strip}
use Rattle.image_turns.proofs.squares.transpose_square.Goals as goal

pub returns-then-side-least_side-clause-grid : goal.returns-then-side-least_side-clause-grid
unfolding grid_of
returns-then-side-least_side-clause-grid g c = c.cross_strip.ensures.grid ∙ whole_strip c.args.shape.width c.args.shape.height (pixel (shaped c.args.cells.now c.args.shape)) c.requires.square c.height-side.result (omega arith)
