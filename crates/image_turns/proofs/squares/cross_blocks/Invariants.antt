use Rattle.std.proofs.Common.{◌-◌, ◌≤◌}
use Rattle.image_turns.proofs.SquareBlocks.{BlocksCrossed}
use Rattle.image_turns.proofs.squares.cross_blocks.Given as goal

abbrev pub invariant-loop-from : goal.invariant-loop-from
invariant-loop-from g l = BlocksCrossed l.from l.from 0 0 l.initial.cells l.cells l.shape × (l.from ≤ l.blocks)

abbrev pub decreases-loop-from : goal.decreases-loop-from
decreases-loop-from g l = l.blocks - l.from

abbrev pub invariant-loop-line : goal.invariant-loop-line
invariant-loop-line g l = BlocksCrossed l.from l.upto 0 l.line l.fn.cells l.cells l.shape

abbrev pub invariant-loop-column : goal.invariant-loop-column
invariant-loop-column g l = BlocksCrossed l.from l.upto l.column l.line l.fn.cells l.cells l.shape
