-- The last sum is that of all counts.
use Rattle.std.proofs.Common.{◌∙◌, arith}
use Rattle.image_regions.proofs.LevelTables.{part_within, sum_all}
use Rattle.imgref_examples.proofs.spread.sums_of.Goals as goal

pub returns-clause-whole : goal.returns-clause-whole
returns-clause-whole c = c.cumulative.ensures.sums 255 (omega arith) ∙ sum_all c.args.counts.now 256 (omega arith)

pub returns-clause-part : goal.returns-clause-part
returns-clause-part c v below =
    part_within c.args.counts.now v _ _ (c.cumulative.ensures.sums v below) (c.cumulative.ensures.sums 255 (omega arith) ∙ sum_all c.args.counts.now 256 (omega arith))
