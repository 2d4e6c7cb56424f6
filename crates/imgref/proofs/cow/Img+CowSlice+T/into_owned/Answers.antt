-- The cells of a lent buffer are those of the image; the image that is handed back has the container and the shape of the one given.
use Rattle.std.proofs.Common.{sym, subst, ◌∙◌}
use Rattle.std.specs.Cow.{IsBorrowedSlice, cow_slice_items}
use Rattle.image_model.specs.Rows.{joined_rows}
use Rattle.image_shape.specs.Shape.{shaped}
use Rattle.image_ops.specs.Clones.{ClonesEqual}
use Rattle.imgref.proofs.SameImages.{image_is}
use Rattle.imgref.proofs.cow.Img+CowSlice+T.into_owned.Goals as goal

pub joined_clones-requires-clause-clones_equal : goal.joined_clones-requires-clause-clones_equal
joined_clones-requires-clause-clones_equal g c =
    let apart = c.into_parts-buf.ensures in
    let lent = sym c.in-Borrowed.is ∙ apart.buf in
    subst (λ l. ClonesEqual g.T.Clone.is_clone (joined_rows l)) (λ k. shaped (cow_slice_items (sym lent k)) (sym apart.shape k)) (c.requires.clones_equal (subst IsBorrowedSlice lent tt))

pub returns-in-Err-clause-handed_back : goal.returns-in-Err-clause-handed_back
returns-in-Err-clause-handed_back g c =
    let apart = c.into_parts-buf.ensures in
    let made = c.from_parts-in-Err.ensures in
    image_is _ _ (made.buf ∙ sym c.in-Borrowed.is ∙ apart.buf) (made.shape ∙ apart.shape)
