use Rattle.frame_messages.specs.Bare.{AreInOrder}
use Rattle.frame_messages.proofs.BareFrames.{Swept}
use Rattle.frame_messages.proofs.report.bare_of.Given as goal

-- the frames up to the last one of a box are counted
abbrev pub invariant-loop-edit : goal.invariant-loop-edit
invariant-loop-edit l = AreInOrder l.steps → Swept l.steps l.count l.edit-index l.reached l.bare
