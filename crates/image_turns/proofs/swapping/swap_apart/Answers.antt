use Rattle.std.proofs.Common.{◌+◌, ◌*◌, ◌≤◌, arith}
use Rattle.std.proofs.Math.Nat.{mul-le-mul_right}
use Rattle.image_model.specs.Swaps.{StretchesSwapped}
use Rattle.image_shape.specs.Shape.{shaped}
use Rattle.image_model.proofs.Places.{outside_refl}
use Rattle.image_model.proofs.Rows.{no_column}
use Rattle.image_model.proofs.Swaps.{nothing_swapped, swapped_grid, swapped_outside}
use Rattle.image_turns.proofs.swapping.swap_apart.Goals as goal

pub returns-then-lower-row_count : goal.returns-then-lower-row_count
returns-then-lower-row_count g c =
    let s = c.args.shape in
    let whole = shaped c.args.cells.now s in
    record {
      grid = nothing_swapped whole c.args.upper c.args.lower (no_column s.width s.height c.args.lower (omega (arith, c.row_count.ensures.value)) c.requires.below);
      outside = outside_refl whole;
    }

pub swap_stretches-requires-clause-apart : goal.swap_stretches-requires-clause-apart
swap_stretches-requires-clause-apart g c =
    let next : (c.args.upper + 1) * c.args.shape.stride ≤ c.args.lower * c.args.shape.stride = mul-le-mul_right c.args.shape.stride (omega (arith, c.requires.order)) in
    omega (arith, next, c.row-first.ensures.start, c.row-second.ensures.start, c.row-second.ensures.len, c.row-second.ensures.holds_width)

pub returns : goal.returns
returns g c =
    let s = c.args.shape in
    let new = c.swap_stretches.new.cells in
    let so : StretchesSwapped c.args.cells.now new (c.args.upper * s.stride) (c.args.lower * s.stride) s.width = rw (← c.row-first.ensures.start, ← c.row-second.ensures.start, ← c.row-second.ensures.len) c.swap_stretches.ensures in
    record {
      grid = swapped_grid c.args.cells.now new s.width s.height s.stride c.args.upper c.args.lower c.requires.fits c.row-second.ensures.holds_width c.requires.order c.requires.below so;
      outside = swapped_outside c.args.cells.now new s.width s.height s.stride c.args.upper c.args.lower c.requires.fits c.row-second.ensures.holds_width c.requires.order c.requires.below so;
    }
