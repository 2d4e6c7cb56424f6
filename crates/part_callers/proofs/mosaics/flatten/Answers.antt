-- The first pixel is at every place.
use Rattle.std.proofs.Common.{rules, ◌≡◌, Some, List, sym, ap, subst, ◌∙◌}
use Rattle.std.specs.Borrow.{MutBor}
use Rattle.image_model.specs.Layout.{Layout, layout, pixel}
use Rattle.image_model.specs.Grid.{grid_of}
use Rattle.imgref.specs.declared.img.Img.{Img}
use Rattle.imgref.specs.Image.{buf_of, width_of, height_of, stride_of, mut_layout}
use Rattle.imgref.specs.Shape.{shaped}
use Rattle.part_callers.proofs.Flattening.{one_value}
use Rattle.part_callers.proofs.mosaics.flatten.Goals as goal

pub returns-clause-grid : goal.returns-clause-grid
returns-clause-grid g c =
    let made = c.from_parts-tile.ensures in
    let tile : Img (MutBor (List g.row.T.Denot)) = c.from_parts-tile.result in
    let left : Img (MutBor (List g.row.T.Denot)) = c.fill.new.self in
    let value : g.row.T.Denot = c.index-pixel.result.now in
    let l : Layout g.row.T.Denot = shaped c.args.cells.now c.args.shape in
    let is : mut_layout tile ≡ l = λ k. shaped (made.buf k).now (made.shape k) in
    let first : pixel l 0 0 ≡ Some value = subst (λ (v : Layout g.row.T.Denot). pixel v 0 0 ≡ Some value) is c.index-pixel.ensures in
    let ends : mut_layout left ≡ shaped (buf_of left).now c.args.shape = ap (λ (i : Img (MutBor (List g.row.T.Denot))). layout (buf_of left).now (width_of i) (height_of i) (stride_of i)) c.fill.ensures.container ∙ ap (shaped (buf_of left).now) made.shape in
    ap (λ (cells : List g.row.T.Denot). grid_of (shaped cells c.args.shape)) (search rules) ∙ sym (ap (λ (v : Layout g.row.T.Denot). grid_of v) ends) ∙ c.fill.ensures.grid ∙ one_value l (width_of tile) (height_of tile) value first c.requires.width_positive c.requires.height_positive made.width made.height
