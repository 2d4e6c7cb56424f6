-- One cell more is where it goes.
use Rattle.std.proofs.Common.{arith, length-set}
use Rattle.std.proofs.lemmas.List.{same_lists, places}
use Rattle.std.proofs.lemmas.Grind.{get_or-set_at}
use Rattle.row_mover.proofs.blocks.push_back.Goals as goal

pub loop-done-preserved : goal.loop-done-preserved
loop-done-preserved g c =
    same_lists _ _ (grind (arith, places, length-set, c.loop-done.invariant, c.requires.some, c.loop-done-test.true))
    (λ k d below. grind (arith, places, length-set, get_or-set_at, c.loop-done.invariant, c.index-cells-at.is, c.requires.some, c.loop-done-test.true, below))
