-- In the frame that is found the edit covers nothing.
use Rattle.std.proofs.Common.{arith}
use Rattle.std.proofs.lemmas.Grind.{common_steps}
use Rattle.frame_requests.proofs.seen.Stretch.uncovered.Goals as goal

pub returns-then-number-self-clause-found : goal.returns-then-number-self-clause-found
returns-then-number-self-clause-found c = grind (arith, common_steps)
