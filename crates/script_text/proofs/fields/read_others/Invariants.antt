use Rattle.std.proofs.Common.{◌≡◌, length}
use Rattle.texts.specs.Reading.{each_of, with_front}
use Rattle.texts.specs.Parts.{parts_left}
use Rattle.script_text.proofs.fields.read_others.Given as goal

abbrev pub invariant-loop-parts : goal.invariant-loop-parts
invariant-loop-parts g l = with_front l.values.items (each_of g.T.Field.reading (parts_left l.parts))
    ≡ with_front l.fn.so_far.items (each_of g.T.Field.reading (parts_left l.fn.parts))

abbrev pub decreases-loop-parts : goal.decreases-loop-parts
decreases-loop-parts g l = length (parts_left l.parts)
