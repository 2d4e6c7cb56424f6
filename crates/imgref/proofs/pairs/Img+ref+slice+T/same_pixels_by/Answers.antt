-- The cells in the shapes of the two images are the images.
use Rattle.std.proofs.Common.{Bool, Bor, MatchBool, subst}
use Rattle.image_ops.specs.Pairs.{AllPlacesAnswer, SomePlaceDiffers}
use Rattle.image_shape.specs.declared.shape.Shape.{Shape}
use Rattle.image_shape.specs.Shape.{shaped}
use Rattle.imgref.proofs.pairs.Img+ref+slice+T.same_pixels_by.Goals as goal

pub returns : goal.returns
returns g c =
    let left = c.args.self.now.buf.now in
    let right = c.args.other.buf.now in
    let post : Bor g.row.T.Denot → Bor g.row.U.Denot → Bool → Type 0 = λ x y b. g.F.Fn.post c.args.f (x, (y, tt)) b in
    subst (λ (s : Shape × Shape). MatchBool c.agree_at_places.result (AllPlacesAnswer post (shaped left s.0) (shaped right s.1)) (SomePlaceDiffers post (shaped left s.0) (shaped right s.1)))
    (λ i. (c.shape-shape.ensures i, c.shape.ensures i)) c.agree_at_places.ensures
