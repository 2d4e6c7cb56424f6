-- Each part is read in turn, or none of them.
use Rattle.std.proofs.Common.{refl}
use Rattle.texts.specs.Reading.{each_of, with_front}
use Rattle.texts.specs.Parts.{parts_left}
use Rattle.texts.proofs.FieldsEach.{each_of-more, each_of-stops, each_of-done, first_of_parts-smaller}
use Rattle.script_text.proofs.fields.read_others.Goals as goal

pub returns-in_default : goal.returns-in_default
returns-in_default g c = each_of-stops g.T.Field.reading c.loop-parts.values.items (parts_left c.loop-parts.parts)
    (with_front c.args.so_far.items (each_of g.T.Field.reading (parts_left c.args.parts.now)))
    (λ none. absurd (cc (c.loop-parts-test.ensures.1 none))) c.in_default.ensures c.loop-parts.invariant

pub loop-parts-preserved : goal.loop-parts-preserved
loop-parts-preserved g c = rw c.in_ok-push.ensures.items (each_of-more g.T.Field.reading c.loop-parts.values.items (parts_left c.loop-parts.parts) (parts_left c.next.new.parts)
    c.in-Some.value (with_front c.args.so_far.items (each_of g.T.Field.reading (parts_left c.args.parts.now))) c.in-Some.ensures c.loop-parts.invariant)

pub loop-parts-smaller : goal.loop-parts-smaller
loop-parts-smaller g c = first_of_parts-smaller g.T.Field.reading (parts_left c.loop-parts.parts) (parts_left c.next.new.parts) c.in-Some.value c.in-Some.ensures

pub returns : goal.returns
returns g c = each_of-done g.T.Field.reading c.loop-parts.values.items (parts_left c.loop-parts.parts)
    (with_front c.args.so_far.items (each_of g.T.Field.reading (parts_left c.args.parts.now))) (c.loop-parts-test.ensures.0 refl) c.loop-parts.invariant
