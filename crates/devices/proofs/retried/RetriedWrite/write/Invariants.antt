use Rattle.std.specs.Io.KnownBytes.{Keeps}
use Rattle.devices.proofs.retried.RetriedWrite.write.Given as goal

-- an interrupted call writes nothing
abbrev pub invariant-loop : goal.invariant-loop
invariant-loop g l = Keeps (g.D.Write.contents l.initial.self.device) (g.D.Write.contents l.self.device)
