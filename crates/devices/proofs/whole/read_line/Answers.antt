-- Byte by byte up to a line feed.
use Rattle.std.proofs.Common.{◌≡◌, ◌+◌, ◌<◌, ◌++◌, ◌∷◌, [], ℕ, List, length, take, set, add-one, length-take-le, arith, take-suc-set, rules}
use Rattle.std.proofs.KnownBytes.{Consumes-trans}
use Rattle.std.proofs.lemmas.List.{append-nil}
use Rattle.std.proofs.lemmas.List.Elements.{All-push}
use Rattle.std.proofs.lemmas.Grind.{common_steps}
use Rattle.devices.proofs.Lines.{no_line}
use Rattle.devices.proofs.whole.read_line.Goals as goal

pushed : (line : List ℕ) (at byte : ℕ) → at < length line → take (at + 1) (set line at byte) ≡ take at line ++ byte ∷ []
pushed line at byte h = rw add-one (take-suc-set line at byte h)

pub loop-at-preserved : goal.loop-at-preserved
loop-at-preserved g c = search (rules, Consumes-trans, All-push, common_steps, pushed)

pub returns-in-Ok-None-clause-fault : goal.returns-in-Ok-None-clause-fault
returns-in-Ok-None-clause-fault g c = grind (arith, Consumes-trans, append-nil, no_line)

pub returns-clause-fault : goal.returns-clause-fault
returns-clause-fault g c = grind (arith, length-take-le, no_line)
