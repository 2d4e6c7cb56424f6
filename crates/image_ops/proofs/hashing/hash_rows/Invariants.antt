use Rattle.std.proofs.Common.{◌≡◌}
use Rattle.std.specs.List.{fold}
use Rattle.image_shape.specs.Shape.{shaped}
use Rattle.image_ops.proofs.FirstRows.{first_rows}
use Rattle.image_ops.proofs.hashing.hash_rows.Given as goal

abbrev pub invariant-loop-y : goal.invariant-loop-y
invariant-loop-y g l = l.state ≡ fold g.H.Hasher.write l.initial.state (first_rows (shaped l.cells l.shape) l.y)
