use Rattle.std.proofs.Common.{◌≡◌, length}
use Rattle.std.specs.List.{All}
use Rattle.texts.specs.Parts.{parts_left}
use Rattle.frame_texts.specs.Boxes.{IsBox, with_boxes, each_box}
use Rattle.frame_texts.proofs.boxes.read_lines.Given as goal

-- the lines that are left add to the boxes so far what all lines add to none
abbrev pub invariant-loop-line : goal.invariant-loop-line
invariant-loop-line l = record {
  left : with_boxes l.boxes.items (parts_left l.lines) ≡ each_box l.text;
  exact : All (IsBox 32) l.boxes.items;
}

abbrev pub decreases-loop-line : goal.decreases-loop-line
decreases-loop-line l = length (parts_left l.lines)
