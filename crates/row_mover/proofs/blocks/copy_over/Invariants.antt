use Rattle.std.proofs.Common.{◌≡◌, ◌≤◌, not, nat_eq}
use Rattle.row_mover.proofs.Stretches.{partly_copied}
use Rattle.row_mover.proofs.blocks.copy_over.Given as goal

abbrev pub invariant-loop-left : goal.invariant-loop-left
invariant-loop-left g l = (l.left ≤ l.fn.len) × (l.cells ≡ partly_copied (not (nat_eq g.row.UP 0)) l.initial.cells l.fn.start l.fn.len l.fn.target l.left)

abbrev pub decreases-loop-left : goal.decreases-loop-left
decreases-loop-left g l = l.left
