use Rattle.std.proofs.Common.{◌≡◌, drop}
use Rattle.frame_messages.specs.Report.{moved}
use Rattle.frame_messages.proofs.report.Later.moved.Given as goal

-- where it is after the flips that are left
abbrev pub invariant-loop-flip : goal.invariant-loop-flip
invariant-loop-flip l = moved (drop l.flip-index l.self.flips.now) l.size l.frame l.at l.now ≡ moved l.self.flips.now l.size l.frame l.at l.fn.window
