-- The buffer has the clones of the rows before y, and room for the others.
use Rattle.std.proofs.Common.{◌≡◌, ◌*◌, ◌≤◌}
use Rattle.std.specs.Vec.{vec_len, vec_capacity}
use Rattle.image_shape.specs.Shape.{shape_width, shape_height, shaped}
use Rattle.image_ops.proofs.EqualClones.{AreClonesUpto}
use Rattle.image_ops.proofs.clones.push_rows.Given as goal

abbrev pub invariant-loop-y : goal.invariant-loop-y
invariant-loop-y g l = (shape_width l.shape * shape_height l.shape ≤ vec_capacity l.pixels) × (vec_len l.pixels ≡ l.y * shape_width l.shape) × AreClonesUpto g.T.Clone.is_clone (shaped l.cells l.shape) l.y l.pixels.items
