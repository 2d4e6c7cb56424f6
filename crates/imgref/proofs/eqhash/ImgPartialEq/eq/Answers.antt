-- The test tells whether the layouts are alike.
use Rattle.std.proofs.Common.{subst, sym, ◌∙◌}
use Rattle.std.specs.Bool.{Decides}
use Rattle.image_model.specs.Alike.{Alike, is_alike}
use Rattle.image_model.proofs.Alike.{is_alike_decides}
use Rattle.image_shape.specs.Shape.{shaped}
use Rattle.imgref.specs.Image.{layout_by}
use Rattle.imgref.proofs.eqhash.ImgPartialEq.eq.Goals as goal

pub returns-clause-places : goal.returns-clause-places
returns-clause-places g c =
    let eq = g.C.Item.PartialEq.eq in
    let k = layout_by g.C.AsSlice.cells c.args.self.now in
    let l = layout_by g.C.AsSlice.cells c.args.other.now in
    subst (λ b. Decides b (Alike eq k l)) (sym (c.are_equal.ensures ∙ (λ i. is_alike eq (shaped (c.as_slice.ensures i) (c.shape.ensures i)) (shaped (c.as_slice-2.ensures i) (c.shape-2.ensures i))))) (is_alike_decides eq k l)
