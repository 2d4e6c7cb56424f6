use Rattle.std.proofs.Common.{rules, set, ap, ◌∙◌, arith, get_or}
use Rattle.std.proofs.lemmas.List.{get_or_default}
use Rattle.std.proofs.lemmas.List.Edits.{map_over_more}
use Rattle.imgref_examples.specs.Brightness.{brighter}
use Rattle.imgref_examples.proofs.brightness.brighten_row.Goals as goal

pub loop-pixel-preserved : goal.loop-pixel-preserved
loop-pixel-preserved c = ap (set c.loop-pixel.row c.loop-pixel.pixel-index) c.saturating_add.ensures ∙ map_over_more (brighter c.args.by) c.args.row.now c.loop-pixel.row c.loop-pixel.pixel-index (get_or c.loop-pixel.row c.loop-pixel.pixel-index 0) (omega arith) c.loop-pixel.invariant (search (rules, get_or_default))
