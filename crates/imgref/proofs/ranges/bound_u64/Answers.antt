use Rattle.std.proofs.Common.{◌<◌, ◌^◌}
use Rattle.image_model.proofs.Ranges.{each_below}
use Rattle.imgref.specs.Image.{ref_layout}
use Rattle.imgref.proofs.ranges.bound_u64.Goals as goal

pub returns : goal.returns
returns c = each_below (λ p _. p < 2 ^ 64) (2 ^ 64) (ref_layout c.args.image) (λ x y p column line there. c.each_pixel.ensures.each x y p column line there) (λ p so. so)
