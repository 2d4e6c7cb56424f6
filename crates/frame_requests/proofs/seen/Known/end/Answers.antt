-- One edit after the other.
use Rattle.std.proofs.Common.{arith}
use Rattle.std.proofs.lemmas.Option.{slice_get-get_or, slice_get_within}
use Rattle.frame_requests.proofs.FirstUncovered.{all_looked, looked_found, looked_none, none_looked}
use Rattle.frame_requests.proofs.seen.Known.end.Goals as goal
use Rattle.frame_requests.proofs.seen.Known.end.Goals.{in-Some, in_default}

pub loop-at-init : goal.loop-at-init
loop-at-init c shapes same order knows = none_looked shapes c.args.stretch same order c.args.steps.now c.args.self.now knows

pub loop-at-preserved : goal.loop-at-preserved
loop-at-preserved c shapes same order knows =
    let steps = c.args.steps.now in
    let there = slice_get-get_or steps c.loop-at.at _ c.loop-at-test.true in
    let known = c.loop-at.invariant shapes same order knows in
    elim c.match-found.branch [
      | in-Some w ↦ rw w.self-is (looked_found shapes c.args.stretch same order steps c.loop-at.self w.keep.new.self c.loop-at.at _ w.in-Some.found there w.keep.ensures (rw w.in-Some.is at c.found.ensures) known)
      | in_default w ↦ rw w.self-is (looked_none shapes c.args.stretch same order steps c.loop-at.self c.loop-at.at _ there (rw w.in_default.is at c.found.ensures) known)
    ]

pub returns : goal.returns
returns c shapes same order knows = all_looked shapes c.args.stretch same order c.args.steps.now c.loop-at.self c.loop-at.at (λ m e is. omega (arith, slice_get_within c.args.steps.now m e is, c.loop-at-test.false)) (c.loop-at.invariant shapes same order knows)
