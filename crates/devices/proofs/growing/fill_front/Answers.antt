-- What was given before the fault comes after what was read.
use Rattle.std.proofs.Common.{arith}
use Rattle.std.proofs.lemmas.Grind.{common_steps}
use Rattle.devices.proofs.Failing.{gave_more}
use Rattle.devices.proofs.growing.fill_front.Goals as goal

pub returns-in-Err-clause-failed : goal.returns-in-Err-clause-failed
returns-in-Err-clause-failed g c = gave_more _ _ _ c.loop-filled.buffer.items c.loop-filled.filled _ c.args.size c.loop-filled.invariant.len (omega (arith, c.min-more.ensures, c.loop-filled-test.true)) c.loop-filled.invariant.read c.in-Err.ensures.failed

pub returns-then-count-more-clause-len : goal.returns-then-count-more-clause-len
returns-then-count-more-clause-len g c = grind (arith, common_steps)

pub returns-then-count-more-clause-bytes : goal.returns-then-count-more-clause-bytes
returns-then-count-more-clause-bytes g c = grind (arith, common_steps)

pub returns-then-count-more-clause-ahead : goal.returns-then-count-more-clause-ahead
returns-then-count-more-clause-ahead g c = grind (arith, common_steps)

pub returns-then-count-more-clause-most : goal.returns-then-count-more-clause-most
returns-then-count-more-clause-most g c = grind (arith, common_steps)

pub loop-filled-preserved : goal.loop-filled-preserved
loop-filled-preserved g c = grind (arith, common_steps)

pub returns-in-Err-clause-most : goal.returns-in-Err-clause-most
returns-in-Err-clause-most g c = grind (arith, common_steps)
