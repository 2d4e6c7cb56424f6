use Rattle.std.proofs.Common.{length, ◌-◌}
use Rattle.frame_messages.proofs.lines.find_bad_word.Given as goal

abbrev pub decreases-loop-at : goal.decreases-loop-at
decreases-loop-at l = length l.words - l.at
