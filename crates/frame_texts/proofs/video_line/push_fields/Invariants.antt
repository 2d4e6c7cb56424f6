use Rattle.std.proofs.Common.{◌≡◌, ◌++◌, length}
use Rattle.frame_texts.specs.VideoLine.{resized_fields}
use Rattle.texts.specs.Parts.{parts_left}
use Rattle.frame_texts.proofs.video_line.push_fields.Given as goal

-- what is written, and the fields that are left
abbrev pub invariant-loop-field : goal.invariant-loop-field
invariant-loop-field l =
    l.text.items ++ resized_fields l.width l.height (parts_left l.rest) ≡ l.initial.text.items ++ resized_fields l.width l.height (parts_left l.fn.fields)

abbrev pub decreases-loop-field : goal.decreases-loop-field
decreases-loop-field l = length (parts_left l.rest)
