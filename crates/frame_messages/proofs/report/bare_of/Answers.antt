-- One box after the other.
use Rattle.std.proofs.Common.{arith, refl, sym}
use Rattle.frame_messages.proofs.BareFrames.{swept_none, swept_other, swept_box, swept_all}
use Rattle.frame_messages.proofs.report.bare_of.Goals as goal
use Rattle.frame_messages.proofs.report.bare_of.Goals.{in-Some, in_default}

pub loop-edit-init : goal.loop-edit-init
loop-edit-init c order = swept_none c.args.steps.now c.args.count _ order refl refl refl

pub loop-edit-preserved : goal.loop-edit-preserved
loop-edit-preserved c order = elim c.match-box_span.branch [
  | in-Some w ↦
      rw (w.bare-is, w.reached-is, w.max-reached.ensures) (swept_box c.args.steps.now c.args.count c.loop-edit.edit-index c.loop-edit.reached c.loop-edit.bare w.add.new.self _ w.in-Some.first w.in-Some.end (omega arith) (omega arith) w.in-Some.ensures.some (sym w.in-Some.ensures.span)
      (rw (sym w.min.ensures) (w.add.ensures.frames, w.add.ensures.first, w.add.ensures.end)) (c.loop-edit.invariant order))
  | in_default w ↦
      rw (w.bare-is, w.reached-is) (swept_other c.args.steps.now c.args.count c.loop-edit.edit-index c.loop-edit.reached c.loop-edit.bare _ (omega arith) (sym w.in_default.ensures.span) (c.loop-edit.invariant order))
]

pub returns : goal.returns
returns c order = swept_all c.args.steps.now c.args.count c.loop-edit.edit-index c.loop-edit.reached c.loop-edit.bare c.add-2.new.self (omega arith) (omega arith) (c.add-2.ensures.frames, c.add-2.ensures.first, c.add-2.ensures.end) (c.loop-edit.invariant order)
