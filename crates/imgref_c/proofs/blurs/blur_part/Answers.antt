-- The image shows at the window what was written there.
use Rattle.std.proofs.Common.{ap, sym, ◌∙◌}
use Rattle.image_model.specs.Grid.{grid_of, patch}
use Rattle.image_model.specs.Windows.{window}
use Rattle.image_shape.specs.Shape.{shaped}
use Rattle.image_writes.proofs.WindowWrites.{part_shows, part_grid, part_outside}
use Rattle.imgref_c.specs.Blurs.{boxes_of}
use Rattle.imgref_c.proofs.Boxes.{whole_boxes}
use Rattle.imgref_c.proofs.blurs.blur_part.Goals as goal

pub returns-clause-grid : goal.returns-clause-grid
returns-clause-grid c =
    let a = c.args in
    let p = c.exact_part.ensures.part in
    part_grid _ _ _ _ _ _ p c.blur_samples.new.cells c.blur_samples.ensures.outside
    ∙ ap (patch (grid_of (shaped a.cells.now a.shape)) a.part.left a.part.top)
    (c.blur_samples.ensures.grid
    ∙ whole_boxes _ _ a.channels a.reach.0 a.reach.1 (c.new-all.ensures ∙ (λ i. window 0 0 (sym p.width i) (sym p.height i)))
    ∙ ap (boxes_of a.channels a.reach.0 a.reach.1) (part_shows _ _ _ _ _ _ p))

pub returns-clause-outside : goal.returns-clause-outside
returns-clause-outside c = part_outside _ _ _ _ _ _ c.exact_part.ensures.part c.blur_samples.new.cells c.blur_samples.ensures.outside
