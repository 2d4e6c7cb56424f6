use Rattle.row_mover.proofs.Compacting.{IsCompactedUpto}
use Rattle.row_mover.proofs.mover.RowMover.join_each.Given as goal

abbrev pub invariant-loop-y : goal.invariant-loop-y
invariant-loop-y g l = IsCompactedUpto l.initial.self l.self l.width l.height l.stride l.y
