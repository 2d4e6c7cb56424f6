-- The byte first occurs where it does in what is left, by the numbers of all bytes.
use Rattle.std.proofs.Common.{◌≡◌, ◌+◌, ◌==◌, length}
use Rattle.std.specs.List.{position_from}
use Rattle.texts.proofs.parts.find_from.Given as goal

abbrev pub invariant-loop-rest : goal.invariant-loop-rest
invariant-loop-rest l = (position_from (λ b. b == l.byte) l.at l.rest ≡ position_from (λ b. b == l.fn.byte) l.fn.start l.fn.bytes) × (l.at + length l.rest ≡ l.fn.start + length l.fn.bytes)

abbrev pub decreases-loop-rest : goal.decreases-loop-rest
decreases-loop-rest l = length l.rest
