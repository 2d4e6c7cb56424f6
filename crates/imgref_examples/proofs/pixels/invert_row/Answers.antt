use Rattle.std.proofs.Common.{rules, ◌-◌, arith, get_or}
use Rattle.std.proofs.lemmas.List.{get_or_default}
use Rattle.std.proofs.lemmas.List.Edits.{map_over_more}
use Rattle.imgref_examples.proofs.pixels.invert_row.Goals as goal

pub loop-pixel-preserved : goal.loop-pixel-preserved
loop-pixel-preserved c = map_over_more (λ p. 255 - p) c.args.row.now c.loop-pixel.row c.loop-pixel.pixel-index (get_or c.loop-pixel.row c.loop-pixel.pixel-index 0) (omega arith) c.loop-pixel.invariant (search (rules, get_or_default))
