use Rattle.std.proofs.Common.{◌≡◌, length}
use Rattle.frame_texts.specs.Boxes.{ended}
use Rattle.frame_texts.proofs.boxes.before_white.Given as goal

abbrev pub invariant-loop-rest : goal.invariant-loop-rest
invariant-loop-rest l = ended l.rest ≡ ended l.line

abbrev pub decreases-loop-rest : goal.decreases-loop-rest
decreases-loop-rest l = length l.rest
