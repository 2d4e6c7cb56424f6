use Rattle.std.proofs.Common.{◌≡◌, ◌++◌, drop}
use Rattle.frame_messages.specs.Report.{is_drawn, spans_from}
use Rattle.frame_messages.proofs.report.drawn_spans.Given as goal

-- those so far, and those of the edits that are left
abbrev pub invariant-loop-at : goal.invariant-loop-at
invariant-loop-at l = l.spans.items ++ spans_from is_drawn l.rate l.at (drop l.at l.steps) ≡ spans_from is_drawn l.rate 0 l.steps
