-- One pixel more.
use Rattle.std.proofs.Common.{ℕ, ◌-◌, ◌<◌, refl, ◌∙◌, arith}
use Rattle.image_model.specs.Layout.{Layout}
use Rattle.image_model.proofs.Places.{outside_trans}
use Rattle.image_model.proofs.Sweeps.{map_one}
use Rattle.imgref.specs.Words.{mut_layout}
use Rattle.imgref_examples.proofs.pixels.invert_lent.Goals as goal

pub loop-x-preserved : goal.loop-x-preserved
loop-x-preserved c =
    let k : Layout ℕ = mut_layout c.loop-x.image in
    let inv = c.loop-x.invariant in
    let write = c.index_mut-pixel.ensures in
    let p : ℕ = c.index_mut-pixel.result.now in
    let column : c.loop-x.x < k.width = omega arith in
    let line : c.loop-y.y < k.height = omega arith in (
      write.fits inv.0 (255 - p),
      outside_trans _ _ _ inv.1 (write.outside column line (255 - p)),
      write.grid inv.0 column line (255 - p)
          ∙ map_one (λ q. 255 - q) c.loop-x.x c.loop-y.y (mut_layout c.args.image.now) k inv.2 inv.1.width_stays inv.1.height_stays (omega arith) (omega arith) p (255 - p) write.value refl,
    )
