-- A value of one cell is that cell.
use Rattle.std.proofs.Common.{◌∙◌}
use Rattle.image_ops.proofs.PixelCounts.{cells_counted}
use Rattle.image_ops.proofs.pixel_counting.count_cells.Goals as goal

pub returns : goal.returns
returns g c = c.count_equal.ensures ∙ cells_counted g.T.PartialEq.eq c.index-value-0.result c.args.value.now _ c.requires.size c.index-value-0.is
