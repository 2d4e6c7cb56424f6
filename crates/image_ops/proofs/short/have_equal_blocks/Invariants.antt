use Rattle.std.proofs.Common.{◌≡◌, ◌-◌, ◌≤◌, take, length, true}
use Rattle.std.specs.Cmp.Lexicographic.{pointwise}
use Rattle.image_ops.proofs.short.have_equal_blocks.Given as goal

abbrev pub invariant-loop-done : goal.invariant-loop-done
invariant-loop-done g l = (l.done ≤ length l.first) × (pointwise g.T.PartialEq.eq (take l.done l.first) (take l.done l.second) ≡ true)

abbrev pub decreases-loop-done : goal.decreases-loop-done
decreases-loop-done g l = l.last - l.done
