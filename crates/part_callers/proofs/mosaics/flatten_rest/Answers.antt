-- A tile that was flattened flattens the image there.
use Rattle.std.proofs.Common.{List, ap, ◌∙◌}
use Rattle.std.specs.Borrow.{MutBor}
use Rattle.image_model.specs.Grid.{grid_of}
use Rattle.image_model.specs.Windows.{Window}
use Rattle.imgref.specs.Image.{mut_layout}
use Rattle.image_tiles.specs.Lending.{image_of, tiling_of}
use Rattle.image_tiles.specs.Tiling.{tile_now}
use Rattle.image_tiles.specs.declared.tiles.TileCursor.{TileCursor}
use Rattle.part_callers.proofs.Flattening.{flat_there, one_more}
use Rattle.part_callers.proofs.mosaics.flatten_rest.Goals as goal

pub loop-tiles-preserved : goal.loop-tiles-preserved
loop-tiles-preserved g c =
    let now : TileCursor (MutBor (List g.row.T.Denot)) = c.loop-tiles.tiles in
    let w : Window = tile_now (tiling_of now) in
    let e = c.next_parts-cells.ensures in
    let cells = c.flatten.new.cells in
    let same = c.flatten.ensures.outside in
    one_more c.args.tiles.now now _ w c.loop-tiles.invariant (ap (λ (s : MutBor (List g.row.T.Denot)). s.ghost_name) (e.container cells same)) e.steps
    (e.grid cells same ∙ flat_there (grid_of (mut_layout (image_of now))) w _ _ e.view c.flatten.ensures.grid)
    (e.outside cells same)
