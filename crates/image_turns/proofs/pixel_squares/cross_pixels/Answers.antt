-- So few cells have one pixel.
use Rattle.std.proofs.Common.{refl, arith}
use Rattle.image_shape.specs.Shape.{shaped}
use Rattle.image_turns.proofs.PixelSquares.{one_pixel}
use Rattle.image_turns.proofs.pixel_squares.cross_pixels.Goals as goal

pub returns-then-cells-lt4 : goal.returns-then-cells-lt4
returns-then-cells-lt4 g c = record {
  grid = one_pixel g.row.N (shaped c.args.cells.now c.args.shape) c.requires.some c.requires.image.fits c.args.shape.holds_width c.requires.image.square (omega arith);
  outside = record { width_stays = refl; height_stays = refl; stride_stays = refl; length_stays = refl; padding_stays = λ k padding. refl };
}
