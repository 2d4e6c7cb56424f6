-- The cells so far are spread.
use Rattle.std.proofs.Common.{◌≡◌, Some}
use Rattle.std.specs.List.{slice_get}
use Rattle.image_ops.proofs.Spreading.{SpreadUpto}
use Rattle.image_ops.proofs.mosaic.spread_by_cells.Given as goal

abbrev pub invariant-loop-x : goal.invariant-loop-x
invariant-loop-x g l = SpreadUpto l.tile_width l.fn.row l.row l.corner l.x × (slice_get l.fn.row l.corner ≡ Some l.pixel)
