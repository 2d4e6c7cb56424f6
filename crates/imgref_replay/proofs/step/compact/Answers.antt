use Rattle.std.proofs.Common.{get_or, ap, arith}
use Rattle.imgref_replay.proofs.Images.{fits_at}
use Rattle.imgref_replay.proofs.Steps.{packed_image}
use Rattle.imgref_replay.proofs.step.compact.Goals as goal

pub as_contiguous_buf-requires : goal.as_contiguous_buf-requires
as_contiguous_buf-requires g c = grind (arith, fits_at)

pub returns : goal.returns
returns g c =
    let images = c.args.images.now in
    let i = c.args.image in
    let packing = c.as_contiguous_buf in
    packed_image g.T.PartialEq.eq i images _ packing.follows.lender-at-none c.if-image-images.false (ap (get_or images i) c.index-images-image.is) packing.follows.holds-at-none.layout
    packing.ensures.packed packing.ensures.fits packing.ensures.grid c.requires
