use Rattle.std.proofs.Common.{◌≤◌, ℕ, List}
use Rattle.frame_requests.specs.Seen.{HasItsShape, Knows}
use Rattle.frame_requests.specs.declared.seen.Shape.{Shape}
use Rattle.frame_requests.proofs.FirstUncovered.{up_to}
use Rattle.frame_requests.proofs.seen.Known.end.Given as goal

-- the frames of the stretch are known for each edit so far
abbrev pub invariant-loop-at : goal.invariant-loop-at
invariant-loop-at l = (shapes : List (ℕ × Shape)) → HasItsShape shapes l.stretch → l.stretch.first ≤ l.stretch.end → Knows l.initial.self l.steps shapes (λ at. l.stretch.first) → Knows l.self l.steps shapes (up_to l.at l.stretch.first l.stretch.end)
