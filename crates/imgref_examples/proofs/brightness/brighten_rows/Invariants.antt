use Rattle.std.proofs.Common.{◌≡◌}
use Rattle.image_model.specs.MappedRows.{mapped_upto}
use Rattle.imgref.specs.Words.{Fits, SameOutside, vec_grid, vec_layout}
use Rattle.imgref_examples.specs.Brightness.{brighter}
use Rattle.imgref_examples.proofs.brightness.brighten_rows.Given as goal

abbrev pub invariant-loop-y : goal.invariant-loop-y
invariant-loop-y l = Fits (vec_layout l.image) × SameOutside (vec_layout l.fn.image) (vec_layout l.image) × (vec_grid l.image ≡ mapped_upto (brighter l.fn.by) l.y (vec_grid l.fn.image))
