-- Machine values of an image that was lent in an option or a result. Assumes `Logic`.
use Rattle.std.proofs.Common.{◌≡◌, refl, ap, ◌∙◌, List, [], ◌∷◌, ◌++◌, ◌⊎◌, inl, inr, ℕ, MutBor, Some}
use Rattle.std.specs.contracts.option.Option as opt
use Rattle.std.specs.contracts.result.Result as result
use Rattle.std.specs.declared.result.Result.{Result}
use Rattle.std.specs.declared.result.Result.TheVariants.{Ok, Err}
use Rattle.borrow_laws.proofs.Walking.{Ura, Lft, ent, Lifetime, Val, of_list, ‵, ◌$◌, ◌∵◌, !, qed, move, keep, drop, fsplit, fpick, rewrite, done, Logic, sem, live, usize, Is, shows, RattleType, peeks}
use Rattle.imgref.specs.declared.img.Img.{Img}
use Rattle.imgref.proofs.ImageValues.{img_row, img_told}
use Rattle.image_tiles.proofs.BandValues.{band_val}

pub ok_or_err : {X : Type 0} (m : Result X ℕ) → ((x : X) × (m ≡ Ok x)) ⊎ ((n : ℕ) × (m ≡ Err n))
ok_or_err (Ok x) = inl (x, refl)
ok_or_err (Err n) = inr (n, refl)

-- an image of lent cells, out of a `Some` and out of an `Ok`
module _ (ℓ : Lifetime) (κ : Lft) (R : RattleType) (b : Img (MutBor (List R.Denot))) where
  abbrev Row : RattleType
  Row = img_row ℓ κ R

  pub ok_told : (vs : List Val) → Is (result.the_row Row usize) (Ok b) vs → vs ≡ live 0 (of_list (band_val b ∷ [])) ∷ []
  ok_told vs is = is.1.0 ∙ ap (λ (ws : List Val). live 0 (of_list ws) ∷ []) (is.1.1.1.0 ∙ ap (λ (ws : List Val). ws ++ []) (img_told ℓ κ R b _ is.1.1.1.1.0).0)

  module _ {M : Type 1} {𝓤 : Ura M} (𝓛 : Logic 𝓤) (v : Val) where
    pub some_image : ent 𝓤 (sem 𝓛 ((opt.the_row Row).own_val (Some b) (v ∷ []))) (sem 𝓛 (Row.own_val b (band_val b ∷ [])))
    some_image = qed 𝓛 (‵ ((opt.the_row Row).own_val (Some b) (v ∷ [])) ∷ []) ∵ fpick ! (λ us. fsplit ! $ drop ! $ fpick ! (λ vss. fsplit ! $ drop ! $ fsplit ! $ move ! (1 ∷ []) $ drop ! $
        peeks ! Row (Is Row) (shows 𝓛 Row) b vss.0 (λ is. rewrite ! 0 (λ (ws : List Val). ‵ (Row.own_val b ws)) (img_told ℓ κ R b vss.0 is).0 refl $ keep ! (0 ∷ []) $ done !)))

    pub ok_image : ent 𝓤 (sem 𝓛 ((result.the_row Row usize).own_val (Ok b) (v ∷ []))) (sem 𝓛 (Row.own_val b (band_val b ∷ [])))
    ok_image = qed 𝓛 (‵ ((result.the_row Row usize).own_val (Ok b) (v ∷ [])) ∷ []) ∵ fpick ! (λ us. fsplit ! $ drop ! $ fpick ! (λ vss. fsplit ! $ drop ! $ fsplit ! $ move ! (1 ∷ []) $ drop ! $
        peeks ! Row (Is Row) (shows 𝓛 Row) b vss.0 (λ is. rewrite ! 0 (λ (ws : List Val). ‵ (Row.own_val b ws)) (img_told ℓ κ R b vss.0 is).0 refl $ keep ! (0 ∷ []) $ done !)))
