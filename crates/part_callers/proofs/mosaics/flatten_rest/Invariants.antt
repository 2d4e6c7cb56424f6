use Rattle.std.proofs.Common.{length}
use Rattle.image_tiles.specs.Tiling.{windows_left}
use Rattle.image_tiles.specs.Lending.{tiling_of}
use Rattle.part_callers.proofs.Flattening.{IsPartly}
use Rattle.part_callers.proofs.mosaics.flatten_rest.Given as goal

abbrev pub invariant-loop-tiles : goal.invariant-loop-tiles
invariant-loop-tiles g l = IsPartly l.fn.tiles l.tiles

abbrev pub decreases-loop-tiles : goal.decreases-loop-tiles
decreases-loop-tiles g l = length (windows_left (tiling_of l.tiles))
