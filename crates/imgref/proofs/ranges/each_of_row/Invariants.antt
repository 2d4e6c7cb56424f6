use Rattle.std.proofs.Common.{◌≡◌, ℕ, ◌<◌, Some}
use Rattle.image_model.specs.Layout.{pixel}
use Rattle.imgref.specs.Image.{layout_by}
use Rattle.imgref.proofs.ranges.each_of_row.Given as goal

abbrev pub invariant-loop-x : goal.invariant-loop-x
invariant-loop-x g l = (u : ℕ) (p : _) → u < l.x → pixel (layout_by g.C.AsSlice.cells l.image) u l.y ≡ Some p → goal.F-post g l.f p tt
