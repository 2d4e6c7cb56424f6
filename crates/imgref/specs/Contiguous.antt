-- The image that is left once a borrow only for reading ends.
use Rattle.std.specs.Prelude.{◌≡◌, ⊤, Vec}
use Rattle.std.specs.Vec.{vec_capacity}
use Rattle.std.specs.Borrow.{follows_so, Fml, RattleType, MutBor}
use Rattle.std.specs.contracts.alloc.Global as global
use Rattle.std.specs.contracts.vec.Vec as vec
use Rattle.std.specs.contracts.impls.GlobalAllocator.TheImpl.{ghosts}
use mathlib.Core.Option.{none}
use Rattle.image_model.specs.Compaction.{packed}
use Rattle.imgref.specs.declared.img.Img.{Img}
use Rattle.imgref.specs.contracts.img.Img as img
use Rattle.imgref.specs.Image.{buf_of, vec_layout}

-- an image that owns its pixels, as a type
abbrev pub vec_image : RattleType → RattleType
vec_image T = img.the_row (vec.the_row T global.the_row ghosts)

-- P holds of what s points to once the borrow of it ends, where the result lends nothing for writing
abbrev pub Rests : (R : RattleType) → MutBor R.Denot → (R.Denot → Type 0) → Fml
Rests R s P = follows_so R R s.ghost_name none (λ _ _. ⊤) P

-- an image is another one packed in its own buffer: no memory was allocated or freed
pub record IsPackedFrom {T Z : Type 0} (old new : Img (Vec T Z)) : Type 0 where
  pub layout : vec_layout new ≡ packed (vec_layout old)
  pub capacity : vec_capacity (buf_of new) ≡ vec_capacity (buf_of old)
