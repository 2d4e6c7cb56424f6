-- The image shows what was made.
use Rattle.std.proofs.Common.{sym, subst}
use Rattle.image_model.specs.Layout.{layout}
use Rattle.image_model.specs.ByPlace.{HasResults, IsFromPlaces}
use Rattle.imgref.proofs.Made.{made_grid, made_results}
use Rattle.imgref.proofs.by_place.ImgVec+T.from_places.Goals as goal

pub returns-clause-grid : goal.returns-clause-grid
returns-clause-grid g c =
    let so = c.new_stride.ensures in
    subst (IsFromPlaces _ c.args.width c.args.height) (λ i. layout (sym so.buf i).items (sym so.width i) (sym so.height i) (sym so.stride i))
    (made_grid _ c.args.width c.args.height c.in_ok-pixels.pixels.items c.max.result c.in_ok-pixels.ensures.made c.max.ensures)

pub returns-clause-answers : goal.returns-clause-answers
returns-clause-answers g c =
    let so = c.new_stride.ensures in
    subst (HasResults _ c.args.width c.args.height) (λ i. layout (sym so.buf i).items (sym so.width i) (sym so.height i) (sym so.stride i))
    (made_results _ c.args.width c.args.height c.in_ok-pixels.pixels.items c.max.result c.in_ok-pixels.ensures.made c.max.ensures)
