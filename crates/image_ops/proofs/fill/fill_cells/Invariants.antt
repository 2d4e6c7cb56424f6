use Rattle.std.proofs.Common.{◌≡◌, ◌++◌, drop, replicate}
use Rattle.image_ops.proofs.fill.fill_cells.Given as goal

abbrev pub invariant-loop-cell : goal.invariant-loop-cell
invariant-loop-cell g l = l.cells ≡ replicate l.cell-index l.value ++ drop l.cell-index l.initial.cells
