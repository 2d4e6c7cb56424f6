use Rattle.std.proofs.Common.{take}
use Rattle.std.specs.List.{flat_map}
use Rattle.std.specs.Io.KnownBytes.{Appends}
use Rattle.frame_messages.specs.Report.{line_text, placed}
use Rattle.frame_messages.proofs.report.write_frame.Given as goal

-- the lines of the first rectangles are written
abbrev pub invariant-loop-span : goal.invariant-loop-span
invariant-loop-span g l = Appends (g.W.Write.contents l.initial.writer) (g.W.Write.contents l.writer) (flat_map (λ s. line_text l.frame (placed l.later.flips.now l.later.framing l.shape l.frame s)) (take l.span-index l.now))
