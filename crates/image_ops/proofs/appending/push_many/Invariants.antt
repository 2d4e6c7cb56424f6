-- The buffer got the clones of the first blocks.
use Rattle.std.proofs.Common.{◌≡◌, ℕ, ◌*◌, ◌-◌, ◌≤◌, take, length}
use Rattle.image_ops.specs.Clones.{GetsClones}
use Rattle.image_ops.proofs.appending.push_many.Given as goal

abbrev pub invariant-loop-done : goal.invariant-loop-done
invariant-loop-done g l = (l.done ≤ length l.cells) × GetsClones g.T.Clone.is_clone l.fn.buf l.buf (take l.done l.cells) × ((blocks : ℕ) × (l.done ≡ 64 * blocks))

abbrev pub decreases-loop-done : goal.decreases-loop-done
decreases-loop-done g l = length l.cells - l.done
