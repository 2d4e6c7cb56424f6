-- The window of a cover keeps its margin.
use Rattle.std.proofs.Common.{arith}
use Rattle.frame_edits.proofs.NearBoxes.{keeps}
use Rattle.frame_edits.proofs.covers.drawn.Goals as goal

pub returns-in-Exact-clause-margin : goal.returns-in-Exact-clause-margin
returns-in-Exact-clause-margin c = grind (arith, keeps)
