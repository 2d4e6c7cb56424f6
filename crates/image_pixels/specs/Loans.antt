-- What a pixel cursor owns of the cells from its pointer on.
use Rattle.std.specs.Prelude.{ℕ, List, length}
use Rattle.std.specs.Borrow.{GName, Fml, RattleType, ffalse, fsep}
use base.Fml.{Lft, fobs, fbor, fhide}
use base.Stored.{coded_list}
use types.SemTy.{Arr, Body}
use denote.Memory.{mem}
use denote.RawPtr.{Ptr, block_ptr, null_ptr}
use denote.Slice.{room, elements_shared}

-- a `&` to the cells from offset o of block b on, as for a slice
abbrev pub seen_from : Lft → (R : RattleType) → List R.Denot → ℕ → ℕ → Fml
seen_from κ R cells b o = fsep (room R (length cells)) (fhide (elements_shared R cells b o κ))

-- the same from a pointer on
abbrev pub seen : Lft → (R : RattleType) → List R.Denot → Ptr → Fml
seen κ R cells (block_ptr b o) = seen_from κ R cells b o
seen κ R cells null_ptr = ffalse

-- a `&mut` to the cells from offset o of block b on, as for a slice
abbrev pub lent_from : Lft → (R : RattleType) → GName → List R.Denot → ℕ → ℕ → Fml
lent_from κ R γ cells b o = fsep (room R (length cells)) (fsep (fobs γ ((coded_list R.coded).code cells)) (fbor κ (Body (Arr (mem R) (length cells)) b o γ)))

-- the same from a pointer on
abbrev pub lent : Lft → (R : RattleType) → GName → List R.Denot → Ptr → Fml
lent κ R γ cells (block_ptr b o) = lent_from κ R γ cells b o
lent κ R γ cells null_ptr = ffalse
