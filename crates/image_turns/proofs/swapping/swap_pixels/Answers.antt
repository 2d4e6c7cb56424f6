use Rattle.std.proofs.Common.{◌+◌, ◌*◌, ◌≤◌, arith}
use Rattle.std.proofs.Math.Nat.{mul-le-mul_right}
use Rattle.image_model.specs.Swaps.{StretchesSwapped}
use Rattle.image_model.proofs.Swaps.{swapped_grid, swapped_outside}
use Rattle.image_turns.proofs.swapping.swap_pixels.Goals as goal

pub swap_few-requires-clause-apart : goal.swap_few-requires-clause-apart
swap_few-requires-clause-apart g c =
    let next : (c.args.upper + 1) * g.row.N ≤ c.args.lower * g.row.N = mul-le-mul_right g.row.N (omega (arith, c.requires.order)) in
    omega (arith, next)

pub returns : goal.returns
returns g c =
    let s = c.args.shape in
    let new = c.swap_few.new.cells in
    let so : StretchesSwapped c.args.cells.now new (c.args.upper * s.stride) (c.args.lower * s.stride) s.width = rw (c.requires.width, c.requires.stride) c.swap_few.ensures in
    record {
      grid = swapped_grid c.args.cells.now new s.width s.height s.stride c.args.upper c.args.lower c.requires.fits s.holds_width c.requires.order c.requires.below so;
      outside = swapped_outside c.args.cells.now new s.width s.height s.stride c.args.upper c.args.lower c.requires.fits s.holds_width c.requires.order c.requires.below so;
    }
