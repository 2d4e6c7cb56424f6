use Rattle.std.proofs.Common.{◌-◌, length}
use Rattle.std.specs.Io.KnownBytes.{Appends}
use Rattle.devices.proofs.Progress.{HaveMoved}
use Rattle.devices.proofs.whole.write_all.Given as goal

-- the bytes up to here are written
abbrev pub invariant-loop-sent : goal.invariant-loop-sent
invariant-loop-sent g l = HaveMoved (Appends (g.W.Write.contents l.initial.writer.device) (g.W.Write.contents l.writer.device)) l.bytes l.sent l.initial.writer.failures l.writer.failures

abbrev pub decreases-loop-sent : goal.decreases-loop-sent
decreases-loop-sent g l = length l.bytes - l.sent
