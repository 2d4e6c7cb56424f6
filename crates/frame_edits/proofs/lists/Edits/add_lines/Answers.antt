-- One line after the other.
use Rattle.std.proofs.Common.{sym, ap, take, ◌∙◌, arith}
use Rattle.std.proofs.lemmas.Grind.{common_steps}
use Rattle.frame_edits.specs.Edits.{Edits}
use Rattle.frame_edits.specs.Lists.{plain, with_lines}
use Rattle.frame_edits.proofs.EditsEach.{place_here, place_later, one_line_more, bad_line, begins_line, restored}
use Rattle.frame_edits.proofs.lists.Edits.add_lines.Goals as goal

pub loop-line-preserved : goal.loop-line-preserved
loop-line-preserved c = record {
  front = begins_line (plain c.args.self.now) (plain c.loop-line.self) (plain c.take_line.new.self) c.in-Some.line.now c.loop-line.invariant.front c.in-Ok.ensures.taken;
  place = λ p. c.loop-line.invariant.place (place_later (plain c.loop-line.self) (plain c.take_line.new.self) c.in-Some.line.now _ _ c.in-Some.ensures c.in-Ok.ensures.taken p);
  left = grind (arith, one_line_more);
}

pub returns-in-Err-clause-none : goal.returns-in-Err-clause-none
returns-in-Err-clause-none c fault = grind (arith, bad_line)

pub returns-in-Err-clause-memory : goal.returns-in-Err-clause-memory
returns-in-Err-clause-memory c fault = c.loop-line.invariant.place (place_here (plain c.loop-line.self) c.in-Some.line.now _ _ c.in-Some.ensures (c.in-Err.ensures.memory fault))

pub returns-clause-taken : goal.returns-clause-taken
returns-clause-taken c = sym c.loop-line.invariant.left ∙ ap (with_lines (plain c.loop-line.self)) c.in_default.ensures

pub returns-in-Err-clause-same : goal.returns-in-Err-clause-same
returns-in-Err-clause-same c =
    restored (plain c.args.self.now) (plain c.loop-line.self) (plain c.restore.new.self) c.len-steps.result c.loop-line.invariant.front (grind (arith, common_steps)) (c.restore.ensures.steps ∙ ap (λ (p : Edits). take c.len-steps.result p.steps) c.in-Err.ensures.same) c.restore.ensures.framing
