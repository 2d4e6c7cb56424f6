use Rattle.std.proofs.Common.{◌≡◌, true}
use Rattle.image_shape.specs.Shape.{shaped}
use Rattle.image_ops.proofs.FirstRows.{equal_upto}
use Rattle.image_ops.proofs.equality.have_equal_rows.Given as goal

abbrev pub invariant-loop-y : goal.invariant-loop-y
invariant-loop-y g l = equal_upto g.T.PartialEq.eq (shaped l.first l.first_shape) (shaped l.second l.second_shape) l.y ≡ true
