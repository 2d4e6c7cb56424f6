use Rattle.std.proofs.Common.{◌≡◌, ◌-◌, length, true}
use Rattle.row_mover.proofs.Stretches.{partly_copied}
use Rattle.row_mover.proofs.blocks.push_back.Given as goal

abbrev pub invariant-loop-done : goal.invariant-loop-done
invariant-loop-done g l = l.cells ≡ partly_copied true l.initial.cells 0 (length l.initial.cells - 1) 1 (length l.initial.cells - 1 - l.done)
