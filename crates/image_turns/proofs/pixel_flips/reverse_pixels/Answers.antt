-- The rows of the image whose rows are the pixels change places.
use Rattle.std.proofs.Common.{◌≡◌, List, sym, ap, ◌∙◌}
use Rattle.image_model.specs.Flips.{flipped}
use Rattle.image_model.specs.Grid.{grid_of}
use Rattle.image_model.specs.Layout.{Layout, layout}
use Rattle.image_shape.specs.Shape.{shaped}
use Rattle.image_turns.proofs.PixelFlips.{row_reversed}
use Rattle.image_turns.proofs.pixel_flips.reverse_pixels.Goals as goal

pub returns-else-this-ne0-clause-turned : goal.returns-else-this-ne0-clause-turned
returns-else-this-ne0-clause-turned g c =
    let a = c.args in
    let made = c.new.ensures in
    let same : (cells : List g.row.T.Denot) → shaped cells c.new.result ≡ layout cells a.size a.count a.size = λ cells i. layout cells (made.width i) (made.height i) (made.stride i) in
    row_reversed a.size a.count a.row.now c.flip_sized.new.cells c.requires.some (c.flip_sized.ensures.outside.length_stays ∙ c.requires.many)
    (ap (λ (l : Layout g.row.T.Denot). grid_of l) (sym (same c.flip_sized.new.cells)) ∙ c.flip_sized.ensures.grid ∙ ap (λ (l : Layout g.row.T.Denot). flipped (grid_of l)) (same a.row.now))
