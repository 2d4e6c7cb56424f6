-- A `&` to it holds none of the pixels. Assumes `Logic`.
use denote.Param.Shared.{copy_shared}
use denote.SharingLaws.{nothing_shr_laws}
use denote.Struct.Field.{RawPtr-field, usize-field}
use denote.Struct.Laws.{field_copy, RawPtr-copy, usize-copy}
use denote.Struct.Lending.{of_Lends, Lends-nothing}
use Rattle.std.specs.contracts.marker.PhantomData as marker
use Rattle.borrow_laws.proofs.Walking.{RattleType, NamedLft, MutSlice, Laws}
use Rattle.image_pixels.specs.contracts.pixels_mut.PixelsIterMut as C
use Rattle.image_pixels.proofs.pixels_mut.PixelsIterMut.TheLaw.Statement.{statement}

pub shares : (κ : NamedLft) (V : RattleType) (L : Laws V) → statement κ V L
shares κ V L =
    let S : RattleType = MutSlice κ.mir κ.lft V in let word = copy_shared usize-field usize-copy in
    of_Lends (C.struct κ V) (C.the_codes V.Denot V.coded (marker.the_row S).coded) (C.the_heap κ.lft V) (C.the_lent κ.lft V) (λ d p. nothing_shr_laws)
    (copy_shared RawPtr-field RawPtr-copy, (word, (word, (word, (word, (copy_shared (marker.the_field S) (field_copy (marker.the_type S) tt), tt)))))) (λ M 𝓤 𝓛 d p. Lends-nothing 𝓛 (C.the_heap κ.lft V d) (C.the_row κ V).lives)
