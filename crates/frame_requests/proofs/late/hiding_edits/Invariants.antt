use Rattle.std.proofs.Common.{◌≡◌, ◌++◌, drop}
use Rattle.frame_requests.specs.Late.{hiding_from}
use Rattle.frame_requests.proofs.late.hiding_edits.Given as goal

-- those so far, and those of the edits that are left
abbrev pub invariant-loop-number : goal.invariant-loop-number
invariant-loop-number l = l.found.items ++ hiding_from l.hiding l.number (drop l.number l.steps) ≡ hiding_from l.hiding 0 l.steps
