-- One step more.
use Rattle.std.proofs.Common.{ℕ, ◌≡◌, List, true, take_all, arith, subst}
use Rattle.image_planes.specs.Spans.{has_all}
use Rattle.image_planes.specs.declared.change.Step.{Step}
use Rattle.image_planes.proofs.Blocks.{one_step_more}
use Rattle.image_planes.proofs.spans.span_of.Goals as goal

pub loop-step-preserved : goal.loop-step-preserved
loop-step-preserved c =
    one_step_more c.loop-step.span _ c.args.block.now c.loop-step.step-index _ (omega arith) c.min.ensures c.max.ensures c.loop-step.invariant

pub returns : goal.returns
returns c =
    subst (λ (ss : List (Step (List ℕ))). has_all c.loop-step.span ss ≡ true) (take_all c.loop-step.step-index c.args.block.now (omega arith)) c.loop-step.invariant
