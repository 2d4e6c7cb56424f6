use Rattle.std.proofs.Common.{◌≡◌, ◌++◌, drop}
use Rattle.frame_requests.specs.Late.{hiding_from, pairs_from}
use Rattle.frame_requests.proofs.late.late_pairs.Given as goal

-- the later edits that are left; the pairs so far, and those of the edits that are left
abbrev pub invariant-loop-number : goal.invariant-loop-number
invariant-loop-number l = record {
  rest : l.rest ≡ hiding_from l.hiding l.number (drop l.number l.steps);
  pairs : l.pairs.items ++ pairs_from l.hiding l.number (drop l.number l.steps) ≡ pairs_from l.hiding 0 l.steps;
}
