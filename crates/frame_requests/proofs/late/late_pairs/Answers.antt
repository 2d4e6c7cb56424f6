-- All edits were looked at, and there is no pair exactly where covers and fills come first.
use Rattle.std.proofs.Common.{◌≡◌, ◌<◌, ◌+◌, ◌++◌, ◌∙◌, ap, arith, drop, length}
use Rattle.frame_requests.specs.Late.{hiding_from, pairs_from}
use Rattle.frame_requests.proofs.LatePairs.{none_exactly, pairs_done, pairs_more, rest_left}
use Rattle.frame_requests.proofs.late.late_pairs.Goals as goal

pub loop-number-preserved : goal.loop-number-preserved
loop-number-preserved c =
    let number = c.loop-number.number in
    let steps = c.args.steps.now in
    let within : number < length steps = omega arith in
    let rest : c.left_after-rest.result.now ≡ hiding_from c.args.hiding (number + 1) (drop (number + 1) steps) = c.left_after-rest.ensures ∙ rest_left c.args.hiding c.loop-number.rest.now steps number _ within c.loop-number.invariant.rest in
    record {
      rest = rest;
      pairs = ap (λ l. l ++ pairs_from c.args.hiding (number + 1) (drop (number + 1) steps)) c.in_ok-add_pairs.ensures
          ∙ pairs_more c.args.hiding c.loop-number.pairs.items steps number _ c.left_after-rest.result.now _ within rest c.loop-number.invariant.pairs;
    }

pub returns-clause-named : goal.returns-clause-named
returns-clause-named c = pairs_done c.args.hiding c.loop-number.pairs.items c.args.steps.now c.loop-number.number _ (omega arith) c.loop-number.invariant.pairs

pub returns-clause-none : goal.returns-clause-none
returns-clause-none c = none_exactly c.args.hiding c.loop-number.pairs.items c.args.steps.now (pairs_done c.args.hiding c.loop-number.pairs.items c.args.steps.now c.loop-number.number _ (omega arith) c.loop-number.invariant.pairs)
