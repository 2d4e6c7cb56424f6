use Rattle.imgref.specs.Words.{grid_of, shape_height, shape_width, shaped}
use Rattle.image_regions.proofs.Zeros.{zeros_shown}
use Rattle.image_regions.proofs.labels.components_into.Goals as goal

pub label_all-requires-clause-zeros : goal.label_all-requires-clause-zeros
label_all-requires-clause-zeros g c = zeros_shown (grid_of (shaped c.fill_pixels.new.cells c.args.shape)) (shape_width c.args.shape) (shape_height c.args.shape) c.fill_pixels.ensures.grid
