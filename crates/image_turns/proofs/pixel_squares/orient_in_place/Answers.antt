-- Two steps make a turn.
use Rattle.std.proofs.Common.{ap, ◌∙◌}
use Rattle.image_model.specs.Flips.{flipped}
use Rattle.image_model.specs.Grid.{grid_of}
use Rattle.image_shape.specs.Shape.{shaped_grid}
use Rattle.image_writes.specs.Mirrored.{mirrored_by}
use Rattle.image_turns.proofs.PixelSquares.{right_from_transposed_by, left_from_transposed_by, half_from_mirrored_by}
use Rattle.image_turns.proofs.pixel_squares.orient_in_place.Goals as goal

pub returns-in-Right-clause-grid : goal.returns-in-Right-clause-grid
returns-in-Right-clause-grid g c =
    let n = c.args.size in
    rw c.in-Right.is (c.mirror_pixels.ensures.grid ∙ ap (mirrored_by n) c.transpose_pixel_square-in-Right.ensures.grid ∙ right_from_transposed_by n c.requires.some (shaped_grid c.args.cells.now c.args.shape))

pub returns-in-Half-clause-grid : goal.returns-in-Half-clause-grid
unfolding grid_of
returns-in-Half-clause-grid g c =
    let n = c.args.size in
    rw c.in-Half.is (c.flip_rows.ensures.grid ∙ ap flipped c.mirror_pixels-in-Half.ensures.grid ∙ half_from_mirrored_by n c.requires.some (shaped_grid c.args.cells.now c.args.shape) c.args.columns c.requires.width)

pub returns-in-Left-clause-grid : goal.returns-in-Left-clause-grid
returns-in-Left-clause-grid g c =
    let n = c.args.size in
    rw c.in-Left.is (c.flip_rows-in-Left.ensures.grid ∙ ap flipped c.transpose_pixel_square-in-Left.ensures.grid ∙ left_from_transposed_by n c.requires.some (shaped_grid c.args.cells.now c.args.shape))
