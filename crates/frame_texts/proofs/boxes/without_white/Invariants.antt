use Rattle.std.proofs.Common.{◌≡◌, length}
use Rattle.frame_texts.specs.Boxes.{without_white}
use Rattle.frame_texts.proofs.boxes.without_white.Given as goal

abbrev pub invariant-loop-rest : goal.invariant-loop-rest
invariant-loop-rest l = without_white l.rest ≡ without_white l.field

abbrev pub decreases-loop-rest : goal.decreases-loop-rest
decreases-loop-rest l = length l.rest
