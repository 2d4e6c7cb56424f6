use Rattle.std.proofs.Common.{length}
use Rattle.image_planes.proofs.scratch.+copy_room.Given as goal

abbrev pub decreases-copy_room : goal.decreases-copy_room
decreases-copy_room l = length l.planes.now
