-- What was read comes after what was there.
use Rattle.std.proofs.Common.{arith, length}
use Rattle.std.proofs.lemmas.Grind.{common_steps}
use Rattle.devices.proofs.Failing.{gave_first}
use Rattle.devices.proofs.Filling.{read_more}
use Rattle.devices.proofs.whole.fill.Goals as goal

pub loop-filled-preserved : goal.loop-filled-preserved
loop-filled-preserved g c = grind (arith, common_steps, read_more)

pub returns-in-Err-clause-failed : goal.returns-in-Err-clause-failed
returns-in-Err-clause-failed g c = gave_first _ _ _ c.loop-filled.buffer c.loop-filled.filled (length c.args.buffer.now) c.loop-filled.invariant.within (omega (arith, c.loop-filled-test.true, c.loop-filled.auto.buffer)) c.loop-filled.invariant.first (c.in-Err.ensures.bytes)
