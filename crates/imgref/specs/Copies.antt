-- Images whose cells are borrowed or owned.
use Rattle.std.specs.Prelude.{◌≡◌, List, Vec, ⊤}
use Rattle.std.specs.Borrow.{Bor}
use Rattle.std.specs.Cow.{cow_slice_items, IsBorrowedSlice, IsOwnedSlice}
use Rattle.std.specs.declared.borrow.CowSlice.{CowSlice}
use Rattle.std.specs.declared.borrow.CowSlice.TheVariants as slice
use Rattle.image_model.specs.Layout.{Layout}
use Rattle.imgref.specs.declared.img.Img.{Img}
use Rattle.imgref.specs.Image.{buf_of, shape_of, layout_by}

-- the layout of an image whose cells are borrowed or owned
abbrev pub cow_layout : {T Z : Type 0} → Img (CowSlice T Z) → Layout T
cow_layout i = layout_by cow_slice_items i

-- the buffer of owned cells is this one
abbrev pub IsBufferOf : {T Z : Type 0} → CowSlice T Z → Vec T Z → Type 0
IsBufferOf (slice.Borrowed r) v = ⊤
IsBufferOf (slice.Owned w) v = v ≡ w

-- an image of owned cells with the buffer and the shape of one that owns its pixels
pub record IsOwnedAs {T Z : Type 0} (i : Img (Vec T Z)) (c : Img (CowSlice T Z)) : Type 0 where
  pub owned : IsOwnedSlice (buf_of c)
  pub same_buffer : IsBufferOf (buf_of c) (buf_of i)
  pub same_shape : shape_of c ≡ shape_of i

-- an image of borrowed cells with the cells and the shape of one of borrowed pixels
pub record IsLentAs {T Z : Type 0} (i : Img (Bor (List T))) (c : Img (CowSlice T Z)) : Type 0 where
  pub lent : IsBorrowedSlice (buf_of c)
  pub same_cells : cow_slice_items (buf_of c) ≡ (buf_of i).now
  pub same_shape : shape_of c ≡ shape_of i
