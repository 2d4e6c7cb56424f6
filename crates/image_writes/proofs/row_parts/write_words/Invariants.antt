-- The first cells are those of the value, and the others are as before.
use Rattle.std.proofs.Common.{◌≡◌, ◌≤◌, ◌-◌, ◌++◌, take, drop}
use Rattle.image_writes.proofs.row_parts.write_words.Given as goal

abbrev pub invariant-loop-x : goal.invariant-loop-x
invariant-loop-x g l = (l.x ≤ g.row.N) × (l.cells ≡ take l.x l.fn.part ++ drop l.x l.fn.cells)

abbrev pub decreases-loop-x : goal.decreases-loop-x
decreases-loop-x g l = g.row.N - l.x
