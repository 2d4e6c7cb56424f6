use Rattle.std.proofs.Common.{◌≡◌, ◌*◌, ◌≤◌}
use Rattle.std.specs.Vec.{vec_len, vec_capacity}
use Rattle.image_ops.specs.Made.{AreMade}
use Rattle.image_ops.proofs.making.make_pixels.Given as goal

abbrev pub invariant-loop-y : goal.invariant-loop-y
invariant-loop-y g l = (l.width * l.height ≤ vec_capacity l.pixels) × (vec_len l.pixels ≡ l.y * l.width) × AreMade (goal.F-post g l.f) l.width l.y l.pixels.items
