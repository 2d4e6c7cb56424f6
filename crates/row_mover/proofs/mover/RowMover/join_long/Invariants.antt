use Rattle.std.proofs.Common.{◌-◌, ◌≤◌}
use Rattle.row_mover.proofs.Compacting.{IsCompactedUpto}
use Rattle.row_mover.proofs.mover.RowMover.join_long.Given as goal

abbrev pub invariant-loop-y : goal.invariant-loop-y
invariant-loop-y g l = (l.y ≤ l.fn.height) × IsCompactedUpto l.fn.self l.mover l.fn.width l.fn.height l.fn.stride l.y

abbrev pub decreases-loop-y : goal.decreases-loop-y
decreases-loop-y g l = l.fn.height - l.y

abbrev pub invariant-loop-y-2 : goal.invariant-loop-y-2
invariant-loop-y-2 g l = IsCompactedUpto l.fn.self l.mover l.fn.width l.fn.height l.fn.stride l.y
