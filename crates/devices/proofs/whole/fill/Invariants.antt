use Rattle.std.proofs.Common.{◌-◌, length}
use Rattle.std.specs.Io.KnownBytes.{Consumes}
use Rattle.devices.proofs.Progress.{HaveMoved}
use Rattle.devices.proofs.whole.fill.Given as goal

-- the buffer up to here was read
abbrev pub invariant-loop-filled : goal.invariant-loop-filled
invariant-loop-filled g l = HaveMoved (Consumes (g.R.Read.remaining l.initial.reader.device) (g.R.Read.remaining l.reader.device)) l.buffer l.filled l.initial.reader.failures l.reader.failures

abbrev pub decreases-loop-filled : goal.decreases-loop-filled
decreases-loop-filled g l = length l.buffer - l.filled
