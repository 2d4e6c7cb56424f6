use Rattle.std.proofs.Common.{◌≡◌, length}
use Rattle.frame_texts.specs.Format.{tagged}
use Rattle.texts.specs.Parts.{parts_left}
use Rattle.frame_texts.proofs.header.field.Given as goal

abbrev pub invariant-loop-field : goal.invariant-loop-field
invariant-loop-field l = tagged l.letter (parts_left l.rest) ≡ tagged l.letter (parts_left l.fn.fields)

abbrev pub decreases-loop-field : goal.decreases-loop-field
decreases-loop-field l = length (parts_left l.rest)
