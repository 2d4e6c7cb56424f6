use Rattle.std.proofs.Common.{◌∙◌, arith}
use Rattle.image_regions.proofs.LevelTables.{sum_all}
use Rattle.image_regions.proofs.counting.sums_up_to.Goals as goal

pub returns-clause-whole : goal.returns-clause-whole
returns-clause-whole c = c.loop-v.invariant.3 255 (omega arith) ∙ sum_all c.args.counts.now 256 (omega arith)
