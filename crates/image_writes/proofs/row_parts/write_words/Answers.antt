-- Cells that are written become those of the value.
use Rattle.std.proofs.Common.{arith, length-set}
use Rattle.std.proofs.lemmas.List.{same_lists, places}
use Rattle.std.proofs.lemmas.Grind.{get_or-set_at}
use Rattle.image_writes.proofs.row_parts.write_words.Goals as goal

pub loop-x-preserved : goal.loop-x-preserved
loop-x-preserved g c =
    let less = c.loop-x-test.true in
    let inv = c.loop-x.invariant.1 in
    let one = c.index-part-x.is in
    let two = c.index-part-x-in-loop-x.is in
    let size = c.requires in (
      omega (arith, less, c.loop-x.invariant.0),
      same_lists _ _ (grind (arith, places, length-set, inv, size, less)) (λ k d below. grind (arith, places, length-set, get_or-set_at, inv, one, two, size, less, below)),
    )

pub returns-then-x : goal.returns-then-x
returns-then-x g c =
    let less = c.if-x.true in
    let inv = c.loop-x.invariant.1 in
    let one = c.index-part-x-then-x.is in
    let size = c.requires in
    same_lists _ _ (grind (arith, places, length-set, inv, size, less)) (λ k d below. grind (arith, places, length-set, get_or-set_at, inv, one, size, less, below))
