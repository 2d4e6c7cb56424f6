use Rattle.std.proofs.Common.{length}
use Rattle.texts.specs.Parts.{parts_left}
use Rattle.frame_messages.proofs.beginnings.tagged.Given as goal

abbrev pub decreases-loop-field : goal.decreases-loop-field
decreases-loop-field l = length (parts_left l.rest)
