-- One shape more, which is the last one again or another.
use Rattle.std.proofs.Common.{IfSome, Some, refl, subst, ap, sym, ◌∙◌, arith}
use Rattle.std.specs.Option.{option_map}
use Rattle.frame_requests.specs.Seen.{AreKept, Knows}
use Rattle.frame_requests.proofs.KeptShapes.{kept_more}
use Rattle.frame_requests.proofs.OneShapeMore.{sees_other, sees_same}
use Rattle.frame_requests.proofs.seen.Seen.see.Goals as goal

pub returns-then-is_same-clause-sees : goal.returns-then-is_same-clause-sees
returns-then-is_same-clause-sees c shapes sees order =
    sees_same c.args.steps.now shapes c.args.self.now c.args.number c.args.shape (c.in-Some.is ∙ ap Some (c.is_same.ensures c.if-is_same.true)) sees order

pub returns-clause-sees : goal.returns-clause-sees
returns-clause-sees c shapes sees order =
    let kept = c.keep_shape.ensures.others in
    sees_other c.args.steps.now shapes _ c.args.number c.args.shape refl refl (kept.last ∙ c.end_stretch.ensures.others.last)
    (subst (λ k. Knows k c.args.steps.now shapes (λ at. c.args.number)) (sym kept.known) (c.end_stretch.ensures.known shapes sees.last_shape (omega (arith, sees.within, order)) sees.knows))
    (kept_more shapes c.args.self.now.first c.args.number c.args.shape (omega (arith, sees.within, order)) _ _ c.keep_shape.ensures.kept (subst (λ k. IfSome (option_map (λ v. v.items) k) (AreKept shapes c.args.self.now.first)) (sym c.end_stretch.ensures.others.shapes) sees.kept))
