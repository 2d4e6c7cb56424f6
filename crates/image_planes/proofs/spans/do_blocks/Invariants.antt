use Rattle.std.proofs.Common.{◌≡◌, ◌*◌, drop, length}
use Rattle.image_planes.proofs.Blocks.{StepsLeft}
use Rattle.image_planes.proofs.spans.do_blocks.Given as goal

-- the steps from a block on are left
abbrev pub invariant-loop-left : goal.invariant-loop-left
invariant-loop-left l = record {
  at : l.left ≡ drop (l.block * 64) l.steps;
  steps : StepsLeft l.shape l.size l.number (length l.initial.copy) (length l.initial.sums) l.steps l.left l.initial.cells l.cells;
}

abbrev pub decreases-loop-left : goal.decreases-loop-left
decreases-loop-left l = length l.left
