use Rattle.std.proofs.Common.{◌≡◌, ◌+◌, ◌-◌, ◌≤◌, ◌⊎◌}
use Rattle.image_shape.specs.Shape.{shape_height}
use Rattle.image_turns.specs.Sizes.{AreBlocks}
use Rattle.image_turns.proofs.BlockPairs.{PairsCrossed}
use Rattle.image_turns.proofs.block_pairs.cross_pairs.Given as goal

abbrev pub invariant-loop-top : goal.invariant-loop-top
invariant-loop-top g l = PairsCrossed g.row.N l.top l.top 0 l.initial.cells l.cells l.shape × (l.top ≤ shape_height l.shape) × AreBlocks g.row.N g.row.SIDE g.row.WIDTH l.upper l.lower

abbrev pub decreases-loop-top : goal.decreases-loop-top
decreases-loop-top g l = l.side - l.top

abbrev pub invariant-loop-left : goal.invariant-loop-left
invariant-loop-left g l =
    PairsCrossed g.row.N l.top (l.top + l.height) l.left l.fn.cells l.cells l.shape × ((l.left ≡ l.top) ⊎ (l.top + l.height ≤ l.left)) × (l.left ≤ shape_height l.shape) × AreBlocks g.row.N g.row.SIDE g.row.WIDTH l.upper l.lower

abbrev pub decreases-loop-left : goal.decreases-loop-left
decreases-loop-left g l = l.side - l.left
