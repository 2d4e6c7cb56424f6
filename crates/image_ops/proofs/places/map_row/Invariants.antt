use Rattle.image_ops.proofs.PlaceAnswers.{AnsweredTo}
use Rattle.image_ops.proofs.places.map_row.Given as goal

abbrev pub invariant-loop-x : goal.invariant-loop-x
invariant-loop-x g l = AnsweredTo (λ x. goal.F-post g l.f x l.y) l.fn.cells l.cells l.x
