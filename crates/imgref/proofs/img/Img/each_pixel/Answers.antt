use Rattle.image_model.specs.Layout.{pixel}
use Rattle.imgref.specs.Image.{layout_by, width_of}
use Rattle.imgref.proofs.Each.{one_row}
use Rattle.imgref.proofs.img.Img.each_pixel.Goals as goal

pub loop-y-preserved : goal.loop-y-preserved
loop-y-preserved g c = one_row (λ p. goal.F-post g c.args.f p tt) (pixel (layout_by g.C.AsSlice.cells c.args.self.now)) (width_of c.args.self.now) c.loop-y.y c.each_of_row.ensures c.loop-y.invariant
