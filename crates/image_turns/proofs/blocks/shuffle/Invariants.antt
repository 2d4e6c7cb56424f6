use Rattle.std.proofs.Common.{◌*◌}
use Rattle.image_turns.specs.Blocks.{shuffled_place}
use Rattle.image_writes.proofs.Gathering.{GatheredTo}
use Rattle.image_turns.proofs.blocks.shuffle.Given as goal

abbrev pub invariant-loop-k : goal.invariant-loop-k
invariant-loop-k g l = GatheredTo shuffled_place l.source l.fn.cells l.cells (2 * l.k)
