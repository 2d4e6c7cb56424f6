-- The entries are those of the function.
use Rattle.std.proofs.Common.{◌∙◌}
use Rattle.imgref.specs.Words.{ref_layout}
use Rattle.imgref_examples.specs.Brightness.{brighter}
use Rattle.image_regions.proofs.ByTable.{table_maps}
use Rattle.imgref_examples.proofs.brightness.brighten_copy.Goals as goal

pub returns-clause-grid : goal.returns-clause-grid
returns-clause-grid c = c.in_ok-made.ensures.grid 0 ∙ table_maps _ (brighter c.args.by) (ref_layout c.args.image) 256 c.bound_u8.ensures c.brighter_values.ensures
