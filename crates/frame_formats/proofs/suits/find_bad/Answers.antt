-- None of the edits is bad.
use Rattle.std.proofs.Common.{arith}
use Rattle.frame_formats.proofs.EachOne.{all_pass}
use Rattle.frame_formats.proofs.suits.find_bad.Goals as goal

pub returns-clause-none : goal.returns-clause-none
returns-clause-none c none = all_pass _ c.args.edits.now c.loop-at.at (omega (arith, c.loop-at-test.false)) c.loop-at.invariant
