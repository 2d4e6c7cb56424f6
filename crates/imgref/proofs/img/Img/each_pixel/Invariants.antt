use Rattle.std.proofs.Common.{◌≡◌, ℕ, ◌<◌, Some}
use Rattle.image_model.specs.Layout.{pixel}
use Rattle.imgref.specs.Image.{layout_by, width_of}
use Rattle.imgref.proofs.img.Img.each_pixel.Given as goal

abbrev pub invariant-loop-y : goal.invariant-loop-y
invariant-loop-y g l = (u v : ℕ) (p : _) → u < width_of l.self → v < l.y → pixel (layout_by g.C.AsSlice.cells l.self) u v ≡ Some p → goal.F-post g l.f p tt
