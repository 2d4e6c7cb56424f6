-- Each box becomes its cover.
use Rattle.std.proofs.Common.{arith}
use Rattle.std.proofs.lemmas.Grind.{common_steps}
use Rattle.frame_edits.proofs.box_covers.cover_all.Goals as goal

pub loop-tracked-preserved : goal.loop-tracked-preserved
loop-tracked-preserved c = grind (arith, common_steps)

pub returns-clause-covers : goal.returns-clause-covers
returns-clause-covers c = grind (arith, common_steps)
