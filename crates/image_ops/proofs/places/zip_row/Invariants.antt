use Rattle.image_ops.specs.CellAnswers.{both_answers}
use Rattle.image_ops.proofs.PlaceAnswers.{AnsweredTo}
use Rattle.image_ops.proofs.places.zip_row.Given as goal

abbrev pub invariant-loop-k : goal.invariant-loop-k
invariant-loop-k g l = AnsweredTo (both_answers (goal.F-post g l.f) l.others) l.fn.cells l.cells l.k
