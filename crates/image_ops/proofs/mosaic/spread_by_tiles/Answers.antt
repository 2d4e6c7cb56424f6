-- One tile more.
use Rattle.std.proofs.Common.{◌≡◌, ◌<◌, length, Some, arith, sym, ap, ◌∙◌}
use Rattle.std.specs.List.{slice_get}
use Rattle.std.proofs.lemmas.Option.{slice_get-get_or}
use Rattle.image_ops.proofs.Spreading.{one_tile_more}
use Rattle.image_ops.proofs.mosaic.spread_by_tiles.Goals as goal

pub loop-corner-preserved : goal.loop-corner-preserved
loop-corner-preserved g c =
    let old = c.args.row.now in
    let l = c.loop-corner in
    let pixel = c.index-row-corner.result in
    let below : l.corner < length old = omega (arith, l.invariant.as_many) in
    let shows : slice_get old l.corner ≡ Some pixel = sym (l.invariant.others l.corner (omega arith)) ∙ slice_get-get_or l.row l.corner pixel (omega (arith, below, l.invariant.as_many)) ∙ ap Some (sym c.index-row-corner.is) in
    one_tile_more c.args.tile_width c.requires.tile_width old l.row l.corner c.min-len.result pixel l.invariant shows below c.min-len.ensures _ c.fill_cells.ensures
