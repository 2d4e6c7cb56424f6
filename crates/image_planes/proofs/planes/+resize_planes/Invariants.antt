use Rattle.std.proofs.Common.{length}
use Rattle.image_planes.proofs.planes.+resize_planes.Given as goal

abbrev pub decreases-resize_planes : goal.decreases-resize_planes
decreases-resize_planes l = length l.targets.now
