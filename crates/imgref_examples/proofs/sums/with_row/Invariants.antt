use Rattle.std.proofs.Common.{◌≡◌, ◌+◌, ◌%◌, ◌^◌, sum, take}
use Rattle.imgref_examples.proofs.sums.with_row.Given as goal

abbrev pub invariant-loop-pixel : goal.invariant-loop-pixel
invariant-loop-pixel l = l.sum ≡ (l.before + sum (take l.pixel-index l.row)) % 2 ^ 64
