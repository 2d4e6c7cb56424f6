use Rattle.std.proofs.Common.{◌<◌, ℕ, true}
use Rattle.image_shape.specs.Shape.{shape_width, shaped}
use Rattle.image_ops.specs.Pairs.{PlaceAnswers}
use Rattle.image_ops.proofs.pairs.agree_at_places.Given as goal

abbrev pub invariant-loop-y : goal.invariant-loop-y
invariant-loop-y g l = (x y : ℕ) → x < shape_width l.first_shape → y < l.y → PlaceAnswers (goal.F-post g l.f) (shaped l.first l.first_shape) (shaped l.second l.second_shape) x y true
