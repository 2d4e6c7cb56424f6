use Rattle.std.proofs.Common.{◌-◌, ◌≤◌}
use Rattle.image_shape.specs.Shape.{shape_height}
use Rattle.image_turns.proofs.SquareBlocks.{CornerCrossed}
use Rattle.image_turns.proofs.squares.cross_strips.Given as goal

abbrev pub invariant-loop-left : goal.invariant-loop-left
invariant-loop-left g l = CornerCrossed l.left l.fn.cells l.cells l.shape × (l.left ≤ shape_height l.shape)

abbrev pub decreases-loop-left : goal.decreases-loop-left
decreases-loop-left g l = l.side - l.left
