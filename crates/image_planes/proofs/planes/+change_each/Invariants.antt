use Rattle.std.proofs.Common.{length}
use Rattle.image_planes.proofs.planes.+change_each.Given as goal

abbrev pub decreases-change_each : goal.decreases-change_each
decreases-change_each l = length l.planes.now
