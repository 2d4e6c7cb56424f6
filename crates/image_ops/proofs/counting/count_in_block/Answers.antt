use Rattle.std.proofs.Common.{arith}
use Rattle.std.proofs.lemmas.Grind.{common_steps}
use Rattle.image_ops.proofs.counting.count_in_block.Goals as goal

pub loop-pixel-preserved : goal.loop-pixel-preserved
loop-pixel-preserved g c = grind (arith, common_steps)

pub returns : goal.returns
returns g c = grind (arith, common_steps)
