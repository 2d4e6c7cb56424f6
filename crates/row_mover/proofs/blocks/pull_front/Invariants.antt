use Rattle.std.proofs.Common.{◌≡◌}
use Rattle.image_model.specs.Shifts.{shifted}
use Rattle.row_mover.proofs.blocks.pull_front.Given as goal

abbrev pub invariant-loop-done : goal.invariant-loop-done
invariant-loop-done g l = l.cells ≡ shifted l.initial.cells 1 l.done 0
