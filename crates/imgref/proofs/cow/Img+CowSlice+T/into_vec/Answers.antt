-- The image that is handed back has the container and the shape of the one given.
use Rattle.std.proofs.Common.{sym, ◌∙◌}
use Rattle.imgref.proofs.SameImages.{image_is}
use Rattle.imgref.proofs.cow.Img+CowSlice+T.into_vec.Goals as goal

pub returns-in-Err-clause-handed_back : goal.returns-in-Err-clause-handed_back
returns-in-Err-clause-handed_back g c =
    let apart = c.into_parts-buf.ensures in
    let made = c.from_parts-in-Err.ensures in
    image_is _ _ (made.buf ∙ sym c.in-Borrowed.is ∙ apart.buf) (made.shape ∙ apart.shape)
