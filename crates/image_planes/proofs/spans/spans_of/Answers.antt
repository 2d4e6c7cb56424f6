-- One block more.
use Rattle.std.proofs.Common.{◌≡◌, ◌∙◌, ℕ, List, [], true, take, drop, ap, arith, append-nil, subst}
use Rattle.image_planes.specs.Spans.{has_all, are_spans_by}
use Rattle.image_planes.specs.declared.change.Step.{Step}
use Rattle.image_planes.proofs.Blocks.{one_span_more, take_upto, drop_upto}
use Rattle.image_planes.proofs.spans.spans_of.Goals as goal

pub loop-left-preserved : goal.loop-left-preserved
loop-left-preserved c rest are =
    let n : ℕ = c.args.many in
    let left : List (Step (List ℕ)) = c.loop-left.left.now in
    let front : c.split_at.result.0.now ≡ take n left = c.split_at.ensures.front ∙ ap (λ k. take k left) c.min.ensures ∙ take_upto n left in
    let back : c.split_at.result.1.now ≡ drop n left = c.split_at.ensures.back ∙ ap (λ k. drop k left) c.min.ensures ∙ drop_upto n left in
    let all : has_all c.span_of.result (take n left) ≡ true = subst (λ (ss : List (Step (List ℕ))). has_all c.span_of.result ss ≡ true) front c.span_of.ensures in
    let others : are_spans_by n rest (drop n left) ≡ true = subst (λ (ss : List (Step (List ℕ))). are_spans_by n rest ss ≡ true) back are in
    rw c.in_ok-push.ensures.items (one_span_more n c.loop-left.spans.items rest c.span_of.result c.args.steps.now left c.loop-left.invariant all others)

pub returns : goal.returns
returns c =
    let none : are_spans_by c.args.many [] c.loop-left.left.now ≡ true = grind arith in
    rw append-nil at (c.loop-left.invariant [] none)
