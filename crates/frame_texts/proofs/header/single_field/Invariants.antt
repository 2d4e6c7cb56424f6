use Rattle.std.proofs.Common.{◌≡◌, length}
use Rattle.frame_texts.specs.Format.{tagged_once}
use Rattle.texts.specs.Parts.{parts_left}
use Rattle.frame_texts.proofs.header.single_field.Given as goal

abbrev pub invariant-loop-part : goal.invariant-loop-part
invariant-loop-part l = tagged_once l.letter (parts_left l.rest) ≡ tagged_once l.letter (parts_left l.fn.fields)

abbrev pub decreases-loop-part : goal.decreases-loop-part
decreases-loop-part l = length (parts_left l.rest)
