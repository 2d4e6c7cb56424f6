-- The image shows at these rows what was written there, and that is what all pixels would show.
use Rattle.std.proofs.Common.{ap, ◌∙◌, arith, rules, List}
use Rattle.std.proofs.lemmas.Grind.{common_steps}
use Rattle.image_model.specs.Grid.{Grid, grid_of, patch, view}
use Rattle.image_model.specs.Windows.{window, window_view}
use Rattle.image_shape.specs.Shape.{shaped_grid}
use Rattle.image_turns.specs.Quarters.{quartered, first_column}
use Rattle.image_writes.specs.Written.{Becomes}
use Rattle.image_writes.proofs.WindowWrites.{part_becomes}
use Rattle.image_turns.proofs.SquareBlocks.{read_window}
use Rattle.image_turns.proofs.QuarterBlocks.{band_quartered}
use Rattle.image_turns.proofs.Windowed.{window_becomes}
use Rattle.image_turns.proofs.bands.quarter_band.Given.{Over}
use Rattle.image_turns.proofs.bands.quarter_band.Goals.{After-exact_part}
use Rattle.image_turns.proofs.bands.quarter_band.Goals as goal

pub read_rows-requires-clause-sizes : goal.read_rows-requires-clause-sizes
read_rows-requires-clause-sizes g c = record { fits = search rules fits 100; source_fits = search rules fits 100; width = search rules fits 100; height = search rules fits 100 }

pub quarter_lines-requires-clause-sizes : goal.quarter_lines-requires-clause-sizes
quarter_lines-requires-clause-sizes g c = record { fits = search rules fits 100; source_fits = search rules fits 100; columns = search rules fits 100; lines = search rules fits 100 }

pub quarter_rows-requires : goal.quarter_rows-requires
quarter_rows-requires g c = record { fits = search rules fits 100; source_fits = search rules fits 100; columns = search rules fits 100; lines = search rules fits 100 }

-- the rows that the copied cells show are those of all pixels
band_becomes : (g : Over) (c : After-exact_part g) (new : List g.row.T.Denot) → let a = c.args in Becomes a.shape a.cells.now new (patch (shaped_grid a.cells.now a.shape) c.new-place-2.result.left c.new-place-2.result.top (quartered a.from.crossing (shaped_grid c.read_rows.new.cells c.new-near.result)))
    → Becomes a.shape a.cells.now new (patch (shaped_grid a.cells.now a.shape) 0 a.top (view (quartered a.from.crossing (shaped_grid a.source.now a.from.shape)) 0 a.top a.shape.width a.height))
unfolding grid_of
band_becomes g c new =
    let a = c.args in
    let from : Grid g.row.T.Denot = shaped_grid a.source.now a.from.shape in
    let is_column = c.first_column-column.ensures ∙ ap (λ n. first_column a.from.crossing n a.top a.height) c.width.ensures.value in
    let is_place = c.new-place-2.ensures ∙ ap (λ n. window 0 a.top n a.height) c.width-2.ensures.value in
    let copied = c.read_rows.ensures.grid ∙ read_window from _ (c.padded_part.ensures.view ∙ ap (window_view from) c.new-place.ensures) in
    window_becomes (quartered a.from.crossing from) a.shape a.cells.now new _ 0 a.top a.shape.width a.height is_place _
    (ap (quartered a.from.crossing) copied ∙ band_quartered a.from.crossing from a.top a.shape.width a.height _ _ (omega (arith, c.requires.there, c.requires.sizes.lines)) c.requires.sizes.columns c.height.ensures.value is_column)

pub returns-then-blocks_pay-clause-becomes : goal.returns-then-blocks_pay-clause-becomes
returns-then-blocks_pay-clause-becomes g c = band_becomes g (goal.at.returns-then-blocks_pay-clause-becomes g c).After-exact_part _ (part_becomes _ _ _ _ _ _ c.exact_part.ensures.part _ _ c.quarter_lines.ensures.becomes)

pub returns-else-lines-clause-becomes : goal.returns-else-lines-clause-becomes
returns-else-lines-clause-becomes g c = band_becomes g (goal.at.returns-else-lines-clause-becomes g c).After-exact_part _ (part_becomes _ _ _ _ _ _ c.exact_part.ensures.part _ _ c.quarter_rows.ensures)

pub offset_bounds-cells-part : goal.offset_bounds-cells-part
offset_bounds-cells-part g c = grind (arith, common_steps)
