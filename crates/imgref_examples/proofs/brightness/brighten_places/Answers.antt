-- One pixel more.
use Rattle.std.proofs.Common.{◌∙◌, arith}
use Rattle.image_model.proofs.Places.{outside_trans}
use Rattle.image_model.proofs.Sweeps.{map_one}
use Rattle.imgref.specs.Words.{vec_layout}
use Rattle.imgref_examples.specs.Brightness.{brighter}
use Rattle.imgref_examples.proofs.brightness.brighten_places.Goals as goal

pub loop-x-preserved : goal.loop-x-preserved
loop-x-preserved c =
    let inv = c.loop-x.invariant in
    let put = c.put.ensures in (
      put.fits,
      outside_trans _ _ _ inv.1 put.outside,
      put.grid ∙ map_one (brighter c.args.by) c.loop-x.x c.loop-y.y (vec_layout c.args.image.now) (vec_layout c.loop-x.image) inv.2 inv.1.width_stays inv.1.height_stays (omega arith) (omega arith)
          c.index-pixel.result.now c.saturating_add.result c.index-pixel.ensures c.saturating_add.ensures,
    )
