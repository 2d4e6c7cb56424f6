-- The pixel lies within the cells, and so does the next one of its row.
use Rattle.std.proofs.Common.{arith}
use Rattle.image_turns.proofs.Oriented.{pixels_reach}
use Rattle.image_turns.proofs.pixel_turning.source_start.Goals as goal

pub cell-requires : goal.cell-requires
cell-requires g c =
    let s = c.args.origin.shape in
    let at = c.source_place-column in
    let reach = pixels_reach g.row.N c.args.len s.width s.height s.stride c.args.origin.columns at.result.0 1 at.result.1 c.requires.fits c.requires.wide c.requires.some (omega arith) (omega (arith, at.ensures.has_column)) at.ensures.has_line in
    record { counts = omega (arith, reach, c.ranges.len) }

pub returns-clause-inside : goal.returns-clause-inside
returns-clause-inside g c =
    let s = c.args.origin.shape in
    let at = c.source_place-column in
    let reach = pixels_reach g.row.N c.args.len s.width s.height s.stride c.args.origin.columns at.result.0 1 at.result.1 c.requires.fits c.requires.wide c.requires.some (omega arith) (omega (arith, at.ensures.has_column)) at.ensures.has_line in
    omega (arith, reach, c.cell.ensures.value)

pub returns-clause-next_inside : goal.returns-clause-next_inside
returns-clause-next_inside g c = λ next.
    let s = c.args.origin.shape in
    let at = c.source_place-column in
    let reach = pixels_reach g.row.N c.args.len s.width s.height s.stride c.args.origin.columns at.result.0 2 at.result.1 c.requires.fits c.requires.wide c.requires.some (omega arith) (omega (arith, at.ensures.column, next)) at.ensures.has_line in
    omega (arith, reach, c.cell.ensures.value)
