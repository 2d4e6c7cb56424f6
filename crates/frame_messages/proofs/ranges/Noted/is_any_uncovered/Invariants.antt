use Rattle.std.proofs.Common.{◌≤◌, ℕ, List}
use Rattle.frame_requests.specs.Seen.{Sees, last_seen}
use Rattle.frame_requests.specs.declared.seen.Shape.{Shape}
use Rattle.frame_messages.proofs.UncoveredNotes.{Looked}
use Rattle.frame_messages.proofs.ranges.Noted.is_any_uncovered.Given as goal

-- of so many edits nothing was found
abbrev pub invariant-loop-number : goal.invariant-loop-number
invariant-loop-number l = (shapes : List (ℕ × Shape)) → Sees l.self.steps.now shapes l.seen → last_seen l.seen ≤ l.count → Looked l.seen l.self.steps.now shapes l.count l.number
