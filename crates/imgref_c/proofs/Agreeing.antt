-- Images that fit are alike exactly where their grids agree.
use Rattle.std.proofs.Common.{◌≡◌, Bool, inl, inr, sym, subst, ◌↔◌}
use Rattle.image_model.specs.Layout.{Layout, Fits}
use Rattle.image_model.specs.Grid.{grid_of, Agree}
use Rattle.image_model.specs.Alike.{Alike}

alike_agrees : {T : Type 0} (eq : T → T → Bool) (k l : Layout T) → Fits k → Fits l → Alike eq k l ↔ Agree eq (grid_of k) (grid_of l)
unfolding grid_of
alike_agrees eq k l fits_k fits_l = (
  λ alike. elim alike.same_pixels [ inl shown ↦ shown.2 | inr none ↦ absurd (none.0 fits_k) ],
  λ agree. record { same_width = agree.same_width; same_height = agree.same_height; same_pixels = inl (fits_k, fits_l, agree) },
)

-- the same of two images that are these
pub alike_as : {T : Type 0} (eq : T → T → Bool) (k l m n : Layout T) → Fits k → Fits l → m ≡ k → n ≡ l → Alike eq m n ↔ Agree eq (grid_of k) (grid_of l)
alike_as {T} eq k l m n fits_k fits_l is_k is_l =
    let told : Layout T → Layout T → Type 0 = λ v w. Alike eq v w ↔ Agree eq (grid_of k) (grid_of l) in
    subst (λ v. told v n) (sym is_k) (subst (told k) (sym is_l) (alike_agrees eq k l fits_k fits_l))
