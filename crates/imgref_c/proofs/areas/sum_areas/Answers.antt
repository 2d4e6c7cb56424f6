-- All sums are written.
use Rattle.std.proofs.Common.{◌≡◌, ℕ, refl, ap, ◌∙◌}
use Rattle.image_model.specs.Grid.{grid_of}
use Rattle.image_model.specs.Layout.{Layout, layout}
use Rattle.image_model.specs.Tables.{table}
use Rattle.imgref.specs.Words.{area_at}
use Rattle.imgref.specs.Words.{ref_layout}
use Rattle.imgref_c.proofs.Whole.{all_written}
use Rattle.imgref_c.proofs.areas.sum_areas.Goals as goal

pub returns-clause-writes : goal.returns-clause-writes
unfolding table
returns-clause-writes c =
    let a = c.args in
    let e = c.shape-2.ensures in
    let f = c.from_parts-image.ensures in
    let s = c.shape.ensures in
    let now = ap (λ b. b.now) f.buf in
    let wide = f.width ∙ s.width in
    let high = f.height ∙ s.height in
    let far = f.stride ∙ s.stride in
    let same : ref_layout c.from_parts-image.result ≡ layout a.cells.now a.claimed.width a.claimed.height a.claimed.stride = λ i. layout (now i) (wide i) (high i) (far i) in
    all_written a.areas.now c.integral_into.new.cells c.shape-2.result (e.width ∙ c.requires.width) (e.height ∙ c.requires.height) e.stride
    (table a.claimed.width a.claimed.height (area_at (grid_of (layout a.cells.now a.claimed.width a.claimed.height a.claimed.stride)))) _ refl
    (c.integral_into.ensures.grid ∙ ap (λ (l : Layout ℕ). table l.width l.height (area_at (grid_of l))) same)
    c.integral_into.ensures.outside
