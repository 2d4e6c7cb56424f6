use Rattle.std.proofs.Common.{◌≡◌, [], length}
use Rattle.std.specs.Option.{is_some}
use Rattle.texts.specs.Parts.{parts_left}
use Rattle.frame_texts.specs.Boxes.{with_boxes, each_box}
use Rattle.frame_texts.proofs.boxes.are_boxes.Given as goal

-- the lines that are left decide
abbrev pub invariant-loop-line : goal.invariant-loop-line
invariant-loop-line l = is_some (with_boxes [] (parts_left l.lines)) ≡ is_some (each_box l.text)

abbrev pub decreases-loop-line : goal.decreases-loop-line
decreases-loop-line l = length (parts_left l.lines)
