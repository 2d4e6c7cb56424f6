use Rattle.std.proofs.Common.{◌≡◌, replicate, take}
use Rattle.imgref_examples.proofs.rows.fill_row.Given as goal

-- the cells so far are `value`
abbrev pub invariant-loop-i : goal.invariant-loop-i
invariant-loop-i g l = take l.i l.row ≡ replicate l.i l.fn.value
