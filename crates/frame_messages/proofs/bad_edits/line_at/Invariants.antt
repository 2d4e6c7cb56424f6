use Rattle.std.proofs.Common.{◌≡◌, ◌-◌, length}
use Rattle.texts.specs.Parts.{parts_of, parts_left}
use Rattle.frame_messages.specs.Lines.{line_of}
use Rattle.frame_messages.proofs.bad_edits.line_at.Given as goal

-- among the lines that are left it has the number that is left
abbrev pub invariant-loop-line : goal.invariant-loop-line
invariant-loop-line l = line_of (parts_left l.lines) l.before ≡ line_of (parts_of 10 l.text) (l.number - 1)

abbrev pub decreases-loop-line : goal.decreases-loop-line
decreases-loop-line l = length (parts_left l.lines)
