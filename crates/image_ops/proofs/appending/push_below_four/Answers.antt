use Rattle.std.proofs.Common.{arith}
use Rattle.std.proofs.lemmas.Grind.{common_steps}
use Rattle.image_ops.proofs.appending.push_below_four.Goals as goal

pub returns-then-is_empty : goal.returns-then-is_empty
returns-then-is_empty g c = grind (arith, common_steps)

pub returns-then-cells-eq1 : goal.returns-then-cells-eq1
returns-then-cells-eq1 g c = grind (arith, common_steps)

pub returns-then-cells-eq2 : goal.returns-then-cells-eq2
returns-then-cells-eq2 g c = grind (arith, common_steps)

pub returns : goal.returns
returns g c = grind (arith, common_steps)
