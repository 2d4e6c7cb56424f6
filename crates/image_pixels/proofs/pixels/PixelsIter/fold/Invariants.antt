-- Both loops keep how the pixels so far were folded.
use Rattle.std.proofs.Common.{◌++◌, length, drop}
use Rattle.image_pixels.specs.Pixels.{copies_left}
use Rattle.image_pixels.proofs.Folds.{Folded, copies_after}
use Rattle.image_pixels.proofs.pixels.PixelsIter.fold.Given as goal

abbrev pub invariant-loop-row : goal.invariant-loop-row
invariant-loop-row g l = Folded (λ x. x) copies_left copies_after g.F.FnMut l.fn.f l.fn.init l.fn.self (copies_left l.self) l.f l.acc

abbrev pub decreases-loop-row : goal.decreases-loop-row
decreases-loop-row g l = length (copies_left l.self)

abbrev pub invariant-loop-pixel : goal.invariant-loop-pixel
invariant-loop-pixel g l = Folded (λ x. x) copies_left copies_after g.F.FnMut l.fn.f l.fn.init l.fn.self (drop l.pixel-index l.row ++ copies_left l.self) l.f l.acc
