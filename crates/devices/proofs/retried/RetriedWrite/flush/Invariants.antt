use Rattle.std.specs.Io.KnownBytes.{Keeps}
use Rattle.devices.proofs.retried.RetriedWrite.flush.Given as goal

-- an interrupted call keeps what was written
abbrev pub invariant-loop : goal.invariant-loop
invariant-loop g l = Keeps (g.D.Write.contents l.initial.self.device) (g.D.Write.contents l.self.device)
