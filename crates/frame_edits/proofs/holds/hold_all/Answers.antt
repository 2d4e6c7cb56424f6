use Rattle.std.proofs.Common.{◌++◌, sym, ap, ◌∙◌, arith}
use Rattle.frame_edits.specs.Holds.{held_at}
use Rattle.frame_edits.proofs.HeldEach.{one_place_more}
use Rattle.frame_edits.proofs.holds.hold_all.Goals as goal

pub loop-at-preserved : goal.loop-at-preserved
loop-at-preserved c =
    let f = held_at c.args.style c.args.hold c.args.boxes.now in
    c.in_ok-push_held.ensures ∙ ap (λ l. c.loop-at.covers.items ++ l) c.held_at-gap.ensures ∙ ap (λ l. l ++ f c.loop-at.at) c.loop-at.invariant ∙ sym (one_place_more f 0 c.loop-at.at c.loop-at.at (omega arith))
