use Rattle.std.proofs.Common.{◌≡◌, length}
use Rattle.std.specs.Io.KnownBytes.{Keeps}
use Rattle.devices.proofs.retried.RetriedRead.read.Given as goal

-- an interrupted call reads nothing
abbrev pub invariant-loop : goal.invariant-loop
invariant-loop g l = (length l.buf ≡ length l.initial.buf) × Keeps (g.D.Read.remaining l.initial.self.device) (g.D.Read.remaining l.self.device)
