use Rattle.std.proofs.Common.{◌≡◌, take}
use Rattle.std.specs.Cmp.Lexicographic.{pointwise}
use Rattle.image_ops.proofs.short.are_all_equal.Given as goal

abbrev pub invariant-loop-x : goal.invariant-loop-x
invariant-loop-x g l = l.same ≡ pointwise g.T.PartialEq.eq (take l.x l.first) (take l.x l.second)
