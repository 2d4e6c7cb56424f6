use Rattle.std.proofs.Common.{◌≡◌, ◌++◌, drop}
use Rattle.frame_requests.specs.Late.{pairs_among}
use Rattle.frame_requests.proofs.late.add_early.Given as goal

-- those so far, and those of the others that are left
abbrev pub invariant-loop-at : goal.invariant-loop-at
invariant-loop-at l = l.pairs.items ++ pairs_among l.hiding l.before.number l.before.edit (drop l.at l.others) ≡ l.fn.pairs.items ++ pairs_among l.hiding l.before.number l.before.edit l.others
