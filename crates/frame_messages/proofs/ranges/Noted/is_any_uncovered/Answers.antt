-- One edit after the other.
use Rattle.std.proofs.Common.{◌≡◌, None, rules, arith}
use Rattle.std.proofs.lemmas.Option.{slice_get-get_or}
use Rattle.frame_messages.proofs.UncoveredNotes.{looked_all, looked_more, none_of}
use Rattle.frame_messages.proofs.ranges.Noted.is_any_uncovered.Goals as goal

pub loop-number-preserved : goal.loop-number-preserved
loop-number-preserved c shapes sees order =
    let steps = c.args.self.steps.now in
    let there = slice_get-get_or steps c.loop-number.number _ c.loop-number-test.true in
    let none : c.uncovered.result ≡ None = none_of c.uncovered.result (search rules) in
    looked_more c.args.seen.now steps shapes c.args.count c.loop-number.number _ there
    (record { none = λ told. c.uncovered.ensures.none steps shapes sees there none told; other = λ not. c.uncovered.ensures.other steps shapes sees order not })
    (c.loop-number.invariant shapes sees order)

pub returns-clause-none : goal.returns-clause-none
returns-clause-none c shapes sees order not any =
    looked_all c.args.seen.now c.args.self.steps.now shapes c.args.count c.loop-number.number (omega (arith, c.loop-number-test.false)) (c.loop-number.invariant shapes sees order) any
