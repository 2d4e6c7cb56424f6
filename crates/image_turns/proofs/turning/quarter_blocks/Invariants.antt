use Rattle.std.proofs.Common.{◌-◌}
use Rattle.image_shape.specs.Shape.{shaped_grid}
use Rattle.image_turns.specs.Quarters.{quartered}
use Rattle.image_turns.proofs.Quarters.{InBlocks}
use Rattle.image_turns.proofs.Windowed.{ShowsWhere}
use Rattle.image_turns.proofs.turning.quarter_blocks.Given as goal

abbrev pub invariant-loop-top : goal.invariant-loop-top
invariant-loop-top g l = ShowsWhere (InBlocks 0 l.top) (quartered l.from.crossing (shaped_grid l.source l.from.shape)) l.fn.cells l.cells l.shape

abbrev pub decreases-loop-top : goal.decreases-loop-top
decreases-loop-top g l = l.height - l.top

abbrev pub invariant-loop-left : goal.invariant-loop-left
invariant-loop-left g l = ShowsWhere (InBlocks l.left l.top) (quartered l.from.crossing (shaped_grid l.source l.from.shape)) l.fn.cells l.cells l.shape

abbrev pub decreases-loop-left : goal.decreases-loop-left
decreases-loop-left g l = l.width - l.left
