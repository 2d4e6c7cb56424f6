use Rattle.std.proofs.Common.{arith}
use Rattle.std.proofs.lemmas.Grind.{common_steps}
use Rattle.devices.proofs.DeviceBytes.{Appends-take_more}
use Rattle.devices.proofs.whole.write_all.Goals as goal

pub loop-sent-preserved : goal.loop-sent-preserved
loop-sent-preserved g c = grind (arith, common_steps, Appends-take_more)
