use Rattle.std.proofs.Common.{◌-◌, ◌≡◌, length}
use Rattle.image_shape.specs.Shape.{shaped_grid}
use Rattle.image_turns.specs.Quarters.{quartered}
use Rattle.image_turns.proofs.Quarters.{InRows}
use Rattle.image_turns.proofs.Windowed.{ShowsWhere}
use Rattle.image_turns.proofs.bands.quarter_lines.Given as goal

abbrev pub invariant-loop-top : goal.invariant-loop-top
invariant-loop-top g l = ShowsWhere (InRows l.top) (quartered l.from.crossing (shaped_grid l.source l.from.shape)) l.initial.cells l.cells l.shape × (length l.lines ≡ length l.initial.lines)

abbrev pub decreases-loop-top : goal.decreases-loop-top
decreases-loop-top g l = l.height - l.top
