-- Machine values by what they hold: a window, a stretch, a shape, an image of a slice for writing, and its parts; and a lent slice as a container.
use mir.Syntax.{ty_ptr, ty_struct}
use denote.Builtin.{u32}
use denote.Param.{arg}
use denote.Param.Laws.{arg_laws, of_field, is_one, row_shared}
use denote.Param.Shared.{mut_slice_shared}
use denote.Struct.Declared.{shape as fields}
use denote.Struct.Field.{mut_slice_field}
use denote.Struct.Laws.{mut_slice_laws}
use Rattle.std.proofs.Common.{◌≡◌, refl, ◌∙◌, ℕ, ◌^◌, ◌<◌, List, [], ◌∷◌, ◌++◌, length, w32, w64, MutBor}
use Rattle.borrow_laws.proofs.Walking.{Ura, Lft, ent, emp, Lifetime, Ty, named, ty_int, tcons, tnil, Val, vint, vstruct, vcons, vnil, of_list, Logic, sem, ◌$◌, ◌∵◌, !, qed, fjoin, fpack, feq_i, done, usize, no, Is, param, Laws, param_laws, uint_Makes, RattleType, Valss, MutSlice, Room, slice_val, nothing, owned, within, Tuple}
use Rattle.image_shape.specs.declared.window.Window.{Window}
use Rattle.image_shape.specs.contracts.window.Window as window
use Rattle.image_shape.specs.declared.window.Stretch.{Stretch}
use Rattle.image_shape.specs.contracts.window.Stretch as stretch
use Rattle.image_shape.specs.declared.shape.Shape.{Shape}
use Rattle.image_shape.specs.contracts.shape.Shape as shape
use Rattle.imgref.specs.declared.img.Img.{Img}
use Rattle.imgref.specs.Image.{shape_of}
use Rattle.imgref.specs.contracts.img.Img.{the_row}

-- ---- a window
abbrev pub window_val : Window → Val
window_val w = vstruct (vcons (vint w64 w.left) (vcons (vint w64 w.top) (vcons (vint w64 w.width) (vcons (vint w64 w.height) vnil))))

module _ {M : Type 1} {𝓤 : Ura M} (𝓛 : Logic 𝓤) where
  pub window_made : (w : Window) → w.left < 2 ^ 64 → w.top < 2 ^ 64 → w.width < 2 ^ 64 → w.height < 2 ^ 64 → ent 𝓤 (emp 𝓤) (sem 𝓛 (window.the_row.own_val w (window_val w ∷ [])))
  window_made w fl ft fw fh = qed 𝓛 [] ∵
      nothing ! $ owned ! usize (Is usize) (uint_Makes 𝓛 w64) w.height (vint w64 w.height ∷ []) (refl, fh) $ fjoin ! $
      owned ! usize (Is usize) (uint_Makes 𝓛 w64) w.width (vint w64 w.width ∷ []) (refl, fw) $ fjoin ! $
      owned ! usize (Is usize) (uint_Makes 𝓛 w64) w.top (vint w64 w.top ∷ []) (refl, ft) $ fjoin ! $
      owned ! usize (Is usize) (uint_Makes 𝓛 w64) w.left (vint w64 w.left ∷ []) (refl, fl) $ fjoin ! $
      feq_i ! (List Val) (window_val w ∷ []) (window_val w ∷ []) refl $ fjoin ! $
      fpack ! (Valss (usize ∷ usize ∷ usize ∷ usize ∷ [])) (within (fields window.the_type) (w.left, (w.top, (w.width, (w.height, tt)))) (window_val w ∷ []))
      (vint w64 w.left ∷ [], (vint w64 w.top ∷ [], (vint w64 w.width ∷ [], (vint w64 w.height ∷ [], tt)))) $ done !

-- ---- a stretch
abbrev pub stretch_val : Stretch → Val
stretch_val s = vstruct (vcons (vint w64 s.start) (vcons (vint w64 s.len) vnil))

pub stretch_told : (s : Stretch) (vs : List Val) → Is stretch.the_row s vs → (vs ≡ stretch_val s ∷ []) × (s.start < 2 ^ 64) × (s.len < 2 ^ 64)
stretch_told s vs is = (is.1.0 ∙ (λ i. vstruct (of_list (is.1.1.0.0 i ++ (is.1.1.1.0.0 i ++ []))) ∷ []), is.1.1.0.1, is.1.1.1.0.1)

module _ {M : Type 1} {𝓤 : Ura M} (𝓛 : Logic 𝓤) where
  pub stretch_made : (s : Stretch) → s.start < 2 ^ 64 → s.len < 2 ^ 64 → ent 𝓤 (emp 𝓤) (sem 𝓛 (stretch.the_row.own_val s (stretch_val s ∷ [])))
  stretch_made s fs fl = qed 𝓛 [] ∵
      nothing ! $ owned ! usize (Is usize) (uint_Makes 𝓛 w64) s.len (vint w64 s.len ∷ []) (refl, fl) $ fjoin ! $
      owned ! usize (Is usize) (uint_Makes 𝓛 w64) s.start (vint w64 s.start ∷ []) (refl, fs) $ fjoin ! $
      feq_i ! (List Val) (stretch_val s ∷ []) (stretch_val s ∷ []) refl $ fjoin ! $
      fpack ! (Valss (usize ∷ usize ∷ [])) (within (fields stretch.the_type) (s.start, (s.len, tt)) (stretch_val s ∷ [])) (vint w64 s.start ∷ [], (vint w64 s.len ∷ [], tt)) $ done !

-- ---- a shape
abbrev pub shape_val : Shape → Val
shape_val s = vstruct (vcons (vint w32 s.width) (vcons (vint w32 s.height) (vcons (vint w64 s.stride) vnil)))

pub shape_told : (s : Shape) (vs : List Val) → Is shape.the_row s vs → (vs ≡ shape_val s ∷ []) × (s.width < 2 ^ 32) × (s.height < 2 ^ 32) × (s.stride < 2 ^ 64)
shape_told s vs is = (
  is.1.0 ∙ (λ i. vstruct (of_list (is.1.1.0.0 i ++ (is.1.1.1.0.0 i ++ (is.1.1.1.1.0.0 i ++ [])))) ∷ []),
  is.1.1.0.1,
  is.1.1.1.0.1,
  is.1.1.1.1.0.1,
)

module _ {M : Type 1} {𝓤 : Ura M} (𝓛 : Logic 𝓤) where
  pub shape_made : (s : Shape) → s.width < 2 ^ 32 → s.height < 2 ^ 32 → s.stride < 2 ^ 64 → ent 𝓤 (emp 𝓤) (sem 𝓛 (shape.the_row.own_val s (shape_val s ∷ [])))
  shape_made s fw fh fs = qed 𝓛 [] ∵
      nothing ! $ owned ! usize (Is usize) (uint_Makes 𝓛 w64) s.stride (vint w64 s.stride ∷ []) (refl, fs) $ fjoin ! $
      owned ! u32 (Is u32) (uint_Makes 𝓛 w32) s.height (vint w32 s.height ∷ []) (refl, fh) $ fjoin ! $
      owned ! u32 (Is u32) (uint_Makes 𝓛 w32) s.width (vint w32 s.width ∷ []) (refl, fw) $ fjoin ! $
      feq_i ! (List Val) (shape_val s ∷ []) (shape_val s ∷ []) refl $ fjoin ! $
      fpack ! (Valss (u32 ∷ u32 ∷ usize ∷ [])) (within (fields shape.the_type) (s.width, (s.height, (s.stride, tt))) (shape_val s ∷ []))
      (vint w32 s.width ∷ [], (vint w32 s.height ∷ [], (vint w64 s.stride ∷ [], tt))) $ done !

-- ---- an image
abbrev pub img_val : ℕ × ℕ → ℕ → Shape → Val
img_val p n s = vstruct (vcons (slice_val p n) (vcons (vint w32 s.width) (vcons (vint w32 s.height) (vcons (vint w64 s.stride) vnil))))

module _ (ℓ : Lifetime) (κ : Lft) (R : RattleType) where
  abbrev pub img_row : RattleType
  img_row = the_row (MutSlice ℓ κ R)

  abbrev pub Cells : Type 0
  Cells = MutBor (List R.Denot)

  pub img_told : (x : Img Cells) (vs : List Val) → Is img_row x vs → (vs ≡ img_val x.buf.ref_ptr (length x.buf.now) (shape_of x) ∷ []) × Room R (length x.buf.now) × (x.width < 2 ^ 32) × (x.height < 2 ^ 32) × (x.stride < 2 ^ 64)
  img_told x vs is = (
    is.1.0 ∙ (λ i. vstruct (of_list (is.1.1.0.0.0 i ++ (is.1.1.1.0.0 i ++ (is.1.1.1.1.0.0 i ++ (is.1.1.1.1.1.0.0 i ++ []))))) ∷ []),
    is.1.1.0.0.1,
    is.1.1.1.0.1,
    is.1.1.1.1.0.1,
    is.1.1.1.1.1.0.1,
  )

-- ---- the parts of an image: its cells and its shape
abbrev pub img_parts_val : ℕ × ℕ → ℕ → Shape → Val
img_parts_val p n s = vstruct (vcons (slice_val p n) (vcons (shape_val s) vnil))

module _ (κ : Lft) (R : RattleType) where
  abbrev pub ImgParts : RattleType
  ImgParts = Tuple (MutSlice (named 0) κ R ∷ shape.the_row ∷ [])

  pub img_parts_told : (x : MutBor (List R.Denot) × Shape) (vs : List Val) → Is ImgParts x vs → (vs ≡ img_parts_val x.0.ref_ptr (length x.0.now) x.1 ∷ []) × Room R (length x.0.now) × (x.1.width < 2 ^ 32) × (x.1.height < 2 ^ 32) × (x.1.stride < 2 ^ 64)
  img_parts_told x vs s =
      let told = shape_told x.1 _ s.1.1.1.0 in
      (s.1.0 ∙ (λ i. vstruct (of_list (s.1.1.0.0.0 i ++ (told.0 i ++ []))) ∷ []), s.1.1.0.0.1, told.1, told.2, told.3)

-- ---- the parts of a window of it
abbrev pub parts_val : ℕ × ℕ → ℕ → Stretch → Shape → Val
parts_val p n at s = vstruct (vcons (slice_val p n) (vcons (stretch_val at) (vcons (shape_val s) vnil)))

module _ (ℓ : Lifetime) (κ : Lft) (R : RattleType) where
  abbrev pub Parts : RattleType
  Parts = Tuple (MutSlice ℓ κ R ∷ stretch.the_row ∷ shape.the_row ∷ [])

  pub parts_told : (x : MutBor (List R.Denot) × Stretch × Shape) (vs : List Val) → Is Parts x vs → (vs ≡ parts_val x.0.ref_ptr (length x.0.now) x.1 x.2 ∷ []) × Room R (length x.0.now)
      × (x.1.start < 2 ^ 64) × (x.1.len < 2 ^ 64) × (x.2.width < 2 ^ 32) × (x.2.height < 2 ^ 32) × (x.2.stride < 2 ^ 64)
  parts_told x vs is =
      let at = stretch_told x.1 _ is.1.1.1.0 in
      let s = shape_told x.2 _ is.1.1.1.1.0 in
      (is.1.0 ∙ (λ i. vstruct (of_list (is.1.1.0.0.0 i ++ (at.0 i ++ (s.0 i ++ [])))) ∷ []), is.1.1.0.0.1, at.1, at.2, s.1, s.2, s.3)

-- ---- cells that are lent for writing, as the container of an image
-- as a call passes it: a pointer and a count
abbrev cells_ty : Ty
cells_ty = ty_struct [] (tcons ty_ptr (tcons (ty_int w64) tnil))

module _ (κ : Lft) (T : RattleType) where
  abbrev pub LentCells : RattleType
  LentCells = arg cells_ty no (MutSlice (named 0) κ (param 0 T))

  pub lent_cells_laws : Laws T → Laws LentCells
  lent_cells_laws L =
      let R : RattleType = param 0 T in
      let LR : Laws R = param_laws 0 T L in
      arg_laws cells_ty no (MutSlice (named 0) κ R) (of_field (mut_slice_field (record { mir = named 0; lft = κ }) R (is_one R LR)) (mut_slice_laws (record { mir = named 0; lft = κ }) R (is_one R LR)) refl (mut_slice_shared (record { mir = named 0; lft = κ }) R (is_one R LR) (row_shared R LR))) refl
