use Rattle.std.proofs.Common.{◌≡◌, All, take, true}
use Rattle.frame_requests.specs.Words.{has_span}
use Rattle.frame_requests.proofs.words.find_no_frame.Given as goal

-- each range so far begins before its end
abbrev pub invariant-loop-at : goal.invariant-loop-at
invariant-loop-at l = All (λ s. has_span s.range ≡ true) (take l.at l.edits)
