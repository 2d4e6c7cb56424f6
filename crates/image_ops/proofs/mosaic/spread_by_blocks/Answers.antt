-- One block more, and the cells from the last corner on.
use Rattle.std.proofs.Common.{◌+◌, ◌<◌, length, Some, arith, sym, ap, ◌∙◌}
use Rattle.std.proofs.lemmas.Option.{slice_get-get_or}
use Rattle.image_ops.proofs.BlockSpreading.{one_block_more, end_spread}
use Rattle.image_ops.proofs.mosaic.spread_by_blocks.Goals as goal

pub loop-row-preserved : goal.loop-row-preserved
loop-row-preserved g c =
    let l = c.loop-row in
    let so = l.invariant in
    let inside : l.corner + g.row.N < length c.args.row.now = omega (arith, c.loop-row-test.true, so.as_many, so.below) in
    let then = slice_get-get_or l.row (l.corner + c.args.tile_width) c.index-row-corner.result (omega (arith, inside, so.as_many, c.requires.within_block)) ∙ ap Some (sym c.index-row-corner.is) in
    one_block_more c.args.tile_width c.requires.tile_width c.args.row.now l.row l.corner l.pixel so g.row.N c.index-row-corner.result c.requires.within_block c.requires.within_tiles inside then _ c.fill_cells.ensures

pub returns : goal.returns
returns g c =
    end_spread c.args.tile_width c.requires.tile_width c.args.row.now c.loop-row.row c.loop-row.corner c.loop-row.pixel c.loop-row.invariant c.spread_rest.new.row c.spread_rest.ensures
