-- The pixels so far come from the source.
use Rattle.std.proofs.Common.{◌*◌}
use Rattle.image_shape.specs.Shape.{shape_height, shape_stride}
use Rattle.image_turns.specs.Oriented.{source_cell}
use Rattle.image_writes.proofs.Gathering.{GatheredTo}
use Rattle.image_turns.proofs.pixel_turning.take_each.Given as goal

abbrev pub invariant-loop-k : goal.invariant-loop-k
invariant-loop-k g l =
    GatheredTo (source_cell l.origin.orientation g.row.N (shape_stride l.origin.shape) l.origin.columns (shape_height l.origin.shape) l.part.left l.part.y) l.source l.fn.cells l.cells (l.k * g.row.N)

abbrev pub invariant-loop-x : goal.invariant-loop-x
invariant-loop-x g l =
    GatheredTo (source_cell l.origin.orientation g.row.N (shape_stride l.origin.shape) l.origin.columns (shape_height l.origin.shape) l.part.left l.part.y) l.source l.fn.cells l.cells (l.x * g.row.N)
