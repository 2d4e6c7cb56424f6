-- The first and the last cell are all of them.
use Rattle.std.proofs.Common.{arith, length-set}
use Rattle.std.proofs.lemmas.List.{same_lists, places}
use Rattle.std.proofs.lemmas.Grind.{get_or-set_at}
use Rattle.row_mover.proofs.blocks.copy_pair.Goals as goal

pub returns : goal.returns
returns g c =
    let r = c.requires in
    let first = c.index-cells-start.is in
    let last = c.index-cells-start-2.is in
    same_lists _ _ (grind (arith, places, length-set, r.source, r.target)) (λ k d below. grind (arith, places, length-set, get_or-set_at, r.some, r.few, r.source, r.target, first, last, below))
