use Rattle.row_mover.proofs.Moving.{IsMovedPart}
use Rattle.row_mover.proofs.mover.RowMover.move_each.Given as goal

abbrev pub invariant-loop-y : goal.invariant-loop-y
invariant-loop-y g l = IsMovedPart l.initial.self l.self l.stride l.from l.to l.width 0 l.y

abbrev pub invariant-loop-y-else-to-from : goal.invariant-loop-y-else-to-from
invariant-loop-y-else-to-from g l = IsMovedPart l.initial.self l.self l.stride l.from l.to l.width l.y l.height
