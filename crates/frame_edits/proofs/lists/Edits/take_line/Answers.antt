-- Without room for it, a line is an edit of pixels.
use Rattle.std.proofs.Common.{arith}
use Rattle.std.proofs.lemmas.Grind.{common_steps}
use Rattle.frame_edits.proofs.lists.Edits.take_line.Goals as goal

pub returns-else-is_some-clause-memory : goal.returns-else-is_some-clause-memory
returns-else-is_some-clause-memory c = grind (arith, common_steps)
