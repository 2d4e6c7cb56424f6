use Rattle.image_ops.proofs.PlaceAnswers.{AnsweredTo}
use Rattle.image_ops.proofs.map.map_cells.Given as goal

abbrev pub invariant-loop-cell : goal.invariant-loop-cell
invariant-loop-cell g l = goal.F-IsAlwaysCallable g l.f × AnsweredTo (λ _. goal.F-post g l.f) l.initial.cells l.cells l.cell-index
