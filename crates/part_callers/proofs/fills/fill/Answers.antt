-- The first pixels, as many as there are, are all of them.
use Rattle.std.proofs.Common.{rules, ◌≡◌, List, ap, sym, ◌∙◌}
use Rattle.std.specs.Borrow.{MutBor}
use Rattle.image_model.specs.Layout.{Layout, layout}
use Rattle.image_model.specs.Grid.{grid_of}
use Rattle.imgref.specs.declared.img.Img.{Img}
use Rattle.imgref.specs.Image.{buf_of, width_of, height_of, stride_of, mut_layout}
use Rattle.imgref.specs.Shape.{shaped}
use Rattle.imgref_examples.specs.Pixels.{with_first}
use Rattle.part_callers.proofs.Filled.{all_of_them}
use Rattle.part_callers.proofs.fills.fill.Goals as goal

pub returns-clause-grid : goal.returns-clause-grid
returns-clause-grid g c =
    let made = c.from_parts-image.ensures in
    let left : Img (MutBor (List g.row.T.Denot)) = c.write_first.new.image in
    let l : Layout g.row.T.Denot = shaped c.args.cells.now c.args.shape in
    let is : mut_layout c.from_parts-image.result ≡ l = λ k. shaped (made.buf k).now (made.shape k) in
    let ends : mut_layout left ≡ shaped (buf_of left).now c.args.shape = ap (λ (i : Img (MutBor (List g.row.T.Denot))). layout (buf_of left).now (width_of i) (height_of i) (stride_of i)) c.write_first.ensures.container ∙ ap (shaped (buf_of left).now) made.shape in
    ap (λ (cells : List g.row.T.Denot). grid_of (shaped cells c.args.shape)) (search rules)
    ∙ sym (ap (λ (v : Layout g.row.T.Denot). grid_of v) ends)
    ∙ c.write_first.ensures.grid
    ∙ (λ k. with_first (grid_of (is k)) (c.pixel_count-count.ensures k) c.args.value)
    ∙ all_of_them l c.args.value
