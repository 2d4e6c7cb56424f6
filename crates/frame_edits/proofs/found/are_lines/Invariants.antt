use Rattle.std.proofs.Common.{◌≡◌, [], length}
use Rattle.std.specs.Option.{is_some}
use Rattle.texts.specs.Parts.{parts_of, parts_left}
use Rattle.frame_edits.specs.Edits.{edits}
use Rattle.frame_edits.specs.Lists.{with_lines}
use Rattle.frame_edits.proofs.found.are_lines.Given as goal

-- the lines that are left decide
abbrev pub invariant-loop-line : goal.invariant-loop-line
invariant-loop-line l = is_some (with_lines (edits [] l.before) (parts_left l.lines)) ≡ is_some (with_lines (edits [] l.fn.framing) (parts_of 10 l.text))

abbrev pub decreases-loop-line : goal.decreases-loop-line
decreases-loop-line l = length (parts_left l.lines)
