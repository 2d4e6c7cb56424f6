use Rattle.std.proofs.Common.{length}
use Rattle.frame_messages.proofs.BegunSpans.{Begun}
use Rattle.frame_messages.proofs.report.take_begun.Given as goal

abbrev pub decreases-loop-rest : goal.decreases-loop-rest
decreases-loop-rest l = length l.rest

-- those before the rest have begun
abbrev pub invariant-loop-rest : goal.invariant-loop-rest
invariant-loop-rest l = Begun l.frame l.spans l.rest l.initial.now.items l.now.items
