use Rattle.std.proofs.Common.{◌≡◌, ◌+◌}
use Rattle.std.specs.Vec.{vec_len, vec_capacity}
use Rattle.image_ops.specs.Made.{AddsRow}
use Rattle.image_ops.proofs.making.push_row.Given as goal

abbrev pub invariant-loop-x : goal.invariant-loop-x
invariant-loop-x g l = (vec_capacity l.pixels ≡ vec_capacity l.fn.pixels) × (vec_len l.pixels ≡ vec_len l.fn.pixels + l.x) × AddsRow (λ x. goal.F-post g l.f x l.y) l.fn.pixels.items l.pixels.items l.x
