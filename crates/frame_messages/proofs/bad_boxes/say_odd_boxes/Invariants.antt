use Rattle.std.proofs.Common.{length}
use Rattle.texts.specs.Parts.{parts_left}
use Rattle.frame_messages.proofs.bad_boxes.say_odd_boxes.Given as goal

abbrev pub decreases-loop-line : goal.decreases-loop-line
decreases-loop-line l = length (parts_left l.lines)
