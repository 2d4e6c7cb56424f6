use Rattle.std.proofs.Common.{ℕ, reverse}
use Rattle.std.specs.List.{flat_map, range_with_len}
use Rattle.std.specs.Io.KnownBytes.{Appends}
use Rattle.frame_messages.specs.Report.{frame_text}
use Rattle.frame_requests.specs.Seen.{AreUpTo, shape_at}
use Rattle.frame_messages.proofs.BegunSpans.{Standing}
use Rattle.frame_messages.proofs.report.write_frames.Given as goal

-- the lines of the frames before this one are written
abbrev pub invariant-loop-frame : goal.invariant-loop-frame
invariant-loop-frame g l = record {
  standing : Standing l.frame-counter l.spans l.rest l.now.items;
  written : (most : ℕ) → AreUpTo most (reverse l.shapes) → Appends (g.W.Write.contents l.initial.writer) (g.W.Write.contents l.writer) (flat_map (λ n. frame_text l.later.flips.now l.later.framing l.spans n (shape_at (reverse l.shapes) n)) (range_with_len 0 l.frame-counter));
}
