-- All pixels are written.
use Rattle.std.proofs.Common.{refl, ap, ◌∙◌}
use Rattle.image_model.specs.Grid.{grid_of}
use Rattle.image_model.specs.Layout.{layout}
use Rattle.image_model.specs.Mapped.{mapped}
use Rattle.image_regions.specs.Levels.{equalized}
use Rattle.imgref_c.proofs.Whole.{shaped_as, all_written}
use Rattle.imgref_c.proofs.values.equalize_image.Goals as goal

pub returns-clause-writes : goal.returns-clause-writes
unfolding mapped grid_of
returns-clause-writes c =
    let a = c.args in
    let s = c.shape.result in
    let e = c.shape.ensures in
    all_written a.cells.now c.equalize_cells.new.cells s e.width e.height e.stride (equalized (grid_of (layout a.cells.now a.claimed.width a.claimed.height a.claimed.stride))) _ refl
    (c.equalize_cells.ensures.grid ∙ ap (λ l. equalized (grid_of l)) (shaped_as a.cells.now s e.width e.height e.stride))
    c.equalize_cells.ensures.outside
