-- The image has the buffer and the shape of the one given.
use Rattle.std.proofs.Common.{refl, ap}
use Rattle.imgref.specs.Image.{shape_of}
use Rattle.imgref.proofs.SameImages.{same_image}
use Rattle.imgref.proofs.cow.ImgCowSliceFromImgVec.from.Goals as goal

pub returns : goal.returns
returns g c = record { owned = tt; same_buffer = refl; same_shape = ap shape_of (same_image c.args.image.buf _ _ _ _ _ _ _) }
