use Rattle.image_shape.specs.Shape.{shaped}
use Rattle.image_pixels.specs.Pixels.{muts_left}
use Rattle.image_pixels.proofs.Layouts.{start_reaches, start_pixels}
use Rattle.image_pixels.proofs.pixels_mut.PixelsIterMut.new.Goals as goal

pub from_counts-requires-clause-reaches : goal.from_counts-requires-clause-reaches
from_counts-requires-clause-reaches g c =
    let n = c.of_shape-counts in
    start_reaches (shaped c.args.cells.now c.args.shape) n.result.remaining n.result.rows_left n.result.width n.result.pad n.ensures.holds_width n.ensures.remaining n.ensures.rows_left n.ensures.width n.ensures.pad c.requires.fits

pub returns-clause-whole : goal.returns-clause-whole
returns-clause-whole g c =
    let n = c.of_shape-counts in
    start_pixels (shaped c.args.cells.now c.args.shape) n.result.remaining n.result.rows_left n.result.width n.result.pad n.ensures.holds_width n.ensures.remaining n.ensures.rows_left n.ensures.width n.ensures.pad
    (muts_left c.from_counts.result) c.requires.fits n.ensures.width_bound n.ensures.height_bound c.from_counts.ensures.pixels
