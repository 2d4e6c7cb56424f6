use Rattle.std.proofs.Common.{arith}
use Rattle.std.proofs.lemmas.Grind.{common_steps}
use Rattle.image_means.proofs.blur.blur_span.Goals as goal

pub loop-p-preserved : goal.loop-p-preserved
loop-p-preserved c = grind (arith, common_steps)

pub returns-clause-means : goal.returns-clause-means
returns-clause-means c = grind (arith, common_steps)
