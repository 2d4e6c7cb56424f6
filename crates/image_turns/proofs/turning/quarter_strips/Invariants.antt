use Rattle.std.proofs.Common.{◌-◌}
use Rattle.image_shape.specs.Shape.{shaped_grid}
use Rattle.image_turns.specs.Quarters.{quartered}
use Rattle.image_turns.proofs.Windowed.{InStrips, ShowsWhere}
use Rattle.image_turns.proofs.turning.quarter_strips.Given as goal

abbrev pub invariant-loop-left : goal.invariant-loop-left
invariant-loop-left g l = ShowsWhere (InStrips l.left) (quartered l.from.crossing (shaped_grid l.source l.from.shape)) l.initial.cells l.cells l.shape

abbrev pub decreases-loop-left : goal.decreases-loop-left
decreases-loop-left g l = l.columns - l.left
