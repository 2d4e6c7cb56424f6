use Rattle.std.proofs.Common.{length}
use Rattle.image_planes.proofs.scratch.+sums_room.Given as goal

abbrev pub decreases-sums_room : goal.decreases-sums_room
decreases-sums_room l = length l.planes.now
