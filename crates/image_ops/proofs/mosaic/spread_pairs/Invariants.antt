-- The pairs so far are spread.
use Rattle.std.proofs.Common.{◌*◌}
use Rattle.image_ops.proofs.Spreading.{SpreadUpto}
use Rattle.image_ops.proofs.mosaic.spread_pairs.Given as goal

abbrev pub invariant-loop-pair : goal.invariant-loop-pair
invariant-loop-pair g l = SpreadUpto 2 l.fn.row l.row (2 * l.pair) (2 * l.pair)
