-- One other more, and all of them.
use Rattle.std.proofs.Common.{◌<◌, ◌+◌, ◌++◌, ◌∙◌, ap, arith, drop, length, sym}
use Rattle.frame_requests.specs.Late.{pairs_among}
use Rattle.frame_requests.proofs.LatePairs.{all_paired, no_pair, pair_added}
use Rattle.frame_requests.proofs.late.add_early.Goals as goal
use Rattle.frame_requests.proofs.late.add_early.Goals.{then-is_late+in_ok-push, else-is_late}

pub loop-at-preserved : goal.loop-at-preserved
loop-at-preserved c =
    let within : c.loop-at.at < length c.args.others.now = omega arith in
    elim c.if-is_late.branch [
      | then-is_late+in_ok-push w ↦ ap (λ v. v.items ++ pairs_among c.args.hiding c.args.before.number c.args.before.edit (drop (c.loop-at.at + 1) c.args.others.now)) w.pairs-is
          ∙ ap (λ l. l ++ pairs_among c.args.hiding c.args.before.number c.args.before.edit (drop (c.loop-at.at + 1) c.args.others.now)) w.in_ok-push.ensures.items
          ∙ pair_added c.args.hiding c.args.before.number c.args.before.edit c.loop-at.pairs.items c.args.others.now c.loop-at.at _ _ within (grind (arith, c.is_late.ensures, w.if-is_late.true)) c.loop-at.invariant
      | else-is_late w ↦ ap (λ v. v.items ++ pairs_among c.args.hiding c.args.before.number c.args.before.edit (drop (c.loop-at.at + 1) c.args.others.now)) w.pairs-is
          ∙ no_pair c.args.hiding c.args.before.number c.args.before.edit c.loop-at.pairs.items c.args.others.now c.loop-at.at _ _ within (sym c.is_late.ensures ∙ w.if-is_late.false) c.loop-at.invariant
    ]

pub returns : goal.returns
returns c = all_paired c.args.hiding c.args.before.number c.args.before.edit c.loop-at.pairs.items c.args.others.now c.loop-at.at _ (omega arith) c.loop-at.invariant
