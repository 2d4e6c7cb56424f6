use Rattle.std.proofs.Common.{◌≡◌, ◌++◌, map, take, drop}
use Rattle.imgref_examples.specs.Brightness.{brighter}
use Rattle.imgref_examples.proofs.brightness.brighten_row.Given as goal

abbrev pub invariant-loop-pixel : goal.invariant-loop-pixel
invariant-loop-pixel l = l.row ≡ map (brighter l.fn.by) (take l.pixel-index l.fn.row) ++ drop l.pixel-index l.fn.row
