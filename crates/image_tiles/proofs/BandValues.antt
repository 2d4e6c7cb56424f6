-- Machine values that the walks of bands handle: of an iterator, and of a band. Assumes `Logic`.
use Rattle.std.proofs.Common.{◌≡◌, ap, ◌∙◌, List, [], ◌∷◌, ◌++◌, length, MutBor, Some}
use Rattle.std.specs.contracts.option.Option as opt
use Rattle.borrow_laws.proofs.Walking.{Lft, Lifetime, Ura, ent, Val, WT, of_list, Logic, sem, live, Is, Laws, RattleType, NamedLft, MutSlice}
use Rattle.borrow_laws.proofs.Declared.{plain_made, held_cells, held_again}
use Rattle.borrow_laws.proofs.Options.{lent_val}
use Rattle.imgref.specs.declared.img.Img.{Img}
use Rattle.imgref.specs.Image.{shape_of}
use Rattle.imgref.proofs.ImageValues.{img_val, img_row, img_told}
use Rattle.image_tiles.specs.declared.bands.BandsMut.{BandsMut}
use Rattle.image_tiles.specs.contracts.bands.BandSpacing as sp
use Rattle.image_tiles.specs.contracts.bands.BandsMut.{the_row, the_type}
use Rattle.image_tiles.proofs.bands.BandSpacing.TheLaws as sp_laws
use Rattle.image_tiles.proofs.bands.BandsMut.TheLaws as it

-- an iterator: its slice, and it made again
module _ (a : NamedLft) (R : RattleType) (L : Laws R) {M : Type 1} {𝓤 : Ura M} (𝓛 : Logic 𝓤) (s : BandsMut R.Denot) where
  pub cells_out : (vs : List Val) → ent 𝓤 (sem 𝓛 ((the_row a R).own_val s vs)) (sem 𝓛 ((MutSlice a.mir a.lft R).own_val s.cells (lent_val s.cells ∷ [])))
  cells_out vs = held_cells (the_type a R).name (a.mir ∷ []) (R ∷ []) a.mir a.lft R sp.the_field.row 𝓛 s.cells (sp.the_field.into s.spacing) vs

  pub cells_in : Is sp.the_row s.spacing (sp_laws.lowered s.spacing ∷ []) → ent 𝓤 (sem 𝓛 ((MutSlice a.mir a.lft R).own_val s.cells (lent_val s.cells ∷ []))) (sem 𝓛 ((the_row a R).own_val s ((it.lowers a R L).lowered s ∷ [])))
  cells_in is = held_again (the_type a R).name (a.mir ∷ []) (R ∷ []) a.mir a.lft R sp.the_field.row 𝓛 s.cells (sp.the_field.into s.spacing) _ (plain_made 𝓛 sp.the_row sp_laws.the_row_plain s.spacing _ is)

-- ---- a band: an image of lent cells
abbrev pub band_val : {T : Type 0} → Img (MutBor (List T)) → Val
band_val b = img_val b.buf.ref_ptr (length b.buf.now) (shape_of b)

module _ (ℓ : Lifetime) (κ : Lft) (R : RattleType) (b : Img (MutBor (List R.Denot))) (vs : List Val) where
  pub band_ok : Is (img_row ℓ κ R) b vs → WT (band_val b)
  band_ok is = let told = img_told ℓ κ R b vs is in ((tt, (record { fits = told.1.0 }, tt)), (record { fits = told.2 }, (record { fits = told.3 }, (record { fits = told.4 }, tt))))

  -- the machine value of a `Some` of one
  pub band_told : Is (opt.the_row (img_row ℓ κ R)) (Some b) vs → vs ≡ live 1 (of_list (band_val b ∷ [])) ∷ []
  band_told is = is.1.0 ∙ ap (λ (ws : List Val). live 1 (of_list ws) ∷ []) (is.1.1.1.0 ∙ ap (λ (ws : List Val). ws ++ []) (img_told ℓ κ R b _ is.1.1.1.1.0).0)
