use Rattle.image_turns.proofs.Diagonals.{CrossedUpto}
use Rattle.image_turns.proofs.squares.cross_strip.Given as goal

abbrev pub invariant-loop-y : goal.invariant-loop-y
invariant-loop-y g l = CrossedUpto l.left l.right 0 l.y l.fn.cells l.cells l.shape

abbrev pub invariant-loop-x : goal.invariant-loop-x
invariant-loop-x g l = CrossedUpto l.left l.right l.x l.y l.fn.cells l.cells l.shape
