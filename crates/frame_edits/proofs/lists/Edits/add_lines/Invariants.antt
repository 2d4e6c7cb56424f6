use Rattle.std.proofs.Common.{◌≡◌, length}
use Rattle.texts.specs.Parts.{parts_of, parts_left}
use Rattle.frame_edits.specs.Lists.{NeedsPlace, with_lines, plain}
use Rattle.frame_edits.proofs.EditsEach.{Begins}
use Rattle.frame_edits.proofs.lists.Edits.add_lines.Given as goal

-- the lines that are left add to the edits so far what all lines add to those before
abbrev pub invariant-loop-line : goal.invariant-loop-line
invariant-loop-line l = record {
  front : Begins (plain l.initial.self) (plain l.self);
  place : NeedsPlace (plain l.self) (parts_left l.lines) → NeedsPlace (plain l.initial.self) (parts_of 10 l.text);
  left : with_lines (plain l.self) (parts_left l.lines) ≡ with_lines (plain l.initial.self) (parts_of 10 l.text);
}

abbrev pub decreases-loop-line : goal.decreases-loop-line
decreases-loop-line l = length (parts_left l.lines)
