use Rattle.std.proofs.Common.{length}
use Rattle.image_planes.proofs.planes.+targets_len.Given as goal

abbrev pub decreases-targets_len : goal.decreases-targets_len
decreases-targets_len l = length l.targets.now
