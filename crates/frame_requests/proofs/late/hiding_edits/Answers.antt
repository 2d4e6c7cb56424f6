-- All edits were looked at.
use Rattle.std.proofs.Common.{arith}
use Rattle.frame_requests.proofs.LatePairs.{all_kept}
use Rattle.frame_requests.proofs.late.hiding_edits.Goals as goal

pub returns : goal.returns
returns c = all_kept c.args.hiding c.loop-number.found.items c.args.steps.now c.loop-number.number _ (omega arith) c.loop-number.invariant
