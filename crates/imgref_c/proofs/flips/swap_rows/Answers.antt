-- All pixels are written.
use Rattle.std.proofs.Common.{refl, ap, ◌∙◌}
use Rattle.image_model.specs.Grid.{grid_of}
use Rattle.image_model.specs.Layout.{Layout}
use Rattle.image_model.specs.Swaps.{rows_swapped}
use Rattle.imgref_c.proofs.Whole.{shaped_as, all_written}
use Rattle.imgref_c.proofs.flips.swap_rows.Goals as goal

pub returns-clause-writes : goal.returns-clause-writes
unfolding rows_swapped grid_of
returns-clause-writes g c =
    let a = c.args in
    let s = c.cells.result in
    let wide = c.cells.ensures.width in
    let high = c.cells.ensures.height in
    let far = c.cells.ensures.stride in
    all_written a.cells.now c.swap_rows.new.cells s wide high far _ _ refl
    (c.swap_rows.ensures.grid ∙ ap (λ (l : Layout g.row.T.Denot). rows_swapped a.y a.z (grid_of l)) (shaped_as a.cells.now s wide high far))
    c.swap_rows.ensures.outside
