-- One block more.
use Rattle.std.proofs.Common.{◌+◌, ◌-◌, ◌*◌, ◌≤◌, ℕ, List, length, min, refl, sym, subst, arith}
use Rattle.image_writes.proofs.Gathering.{GatheredTo, written}
use Rattle.image_turns.specs.Triples.{triple_back}
use Rattle.image_turns.proofs.TriplePlaces.{triple_read, triple_block}
use Rattle.image_turns.proofs.triples.copy_triples_back.Goals as goal

pub loop-block-preserved : goal.loop-block-preserved
loop-block-preserved g c =
    let T : Type 0 = g.row.T.Denot in
    let old : List T = c.args.cells.now in
    let source : List T = c.args.source.now in
    let now : List T = c.loop-block.cells in
    let n : ℕ = length old in
    let at : ℕ = c.min-at.result in
    let done : ℕ = 48 * c.loop-block.block in
    let next : ℕ = 48 * (c.loop-block.block + 1) in
    let from : ℕ = n - 48 - at in
    let room : 48 ≤ n = omega (arith, c.if-len-lt48.false, c.loop-block.invariant.as_many) in
    subst (λ cells. GatheredTo (triple_back n) source old cells (min next n)) (sym (written now _ at (at + 48 - at) 48 (omega arith)))
    (triple_block source old now _ n done next at refl c.requires.pixels (omega arith) room (omega arith) c.min-at.ensures
    (triple_read from (from + 48 - from) 48 (omega arith) refl c.read_part.ensures c.reversed_part-part.ensures.as_many c.reversed_part-part.ensures.turned c.write_part.ensures)
    c.loop-block.invariant)
