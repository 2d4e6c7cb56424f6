use Rattle.std.proofs.Common.{◌≡◌, ◌++◌, ◌-◌, map, take, drop}
use Rattle.imgref_examples.proofs.pixels.invert_row.Given as goal

abbrev pub invariant-loop-pixel : goal.invariant-loop-pixel
invariant-loop-pixel l = l.row ≡ map (λ p. 255 - p) (take l.pixel-index l.fn.row) ++ drop l.pixel-index l.fn.row
