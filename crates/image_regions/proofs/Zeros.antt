-- An image of zeros.
use Rattle.std.proofs.Common.{◌≡◌, ℕ, Some, None, refl, sym, ap, ◌∙◌, ⊎_elim}
use Rattle.std.proofs.lemmas.Bool.{cases_Bool, cond-true, cond-false}
use Rattle.image_model.specs.Grid.{Grid, is_place, uniform}
use Rattle.image_model.specs.ByPlace.{from_places}
use Rattle.image_model.specs.Tables.{table}

-- each place of one shows 0
pub zeros_shown : (g : Grid ℕ) (width height : ℕ) → g ≡ uniform width height 0 → (u v n : ℕ) → g.pixel u v ≡ Some n → n ≡ 0
unfolding uniform
zeros_shown g width height is u v n has =
    let there : (uniform width height 0).pixel u v ≡ Some n = sym (ap (λ h. h.pixel u v) is) ∙ has in
    ⊎_elim
    (λ hit. let same : Some 0 ≡ Some n = sym (cond-true (is_place width height u v) (Some 0) None hit) ∙ there in let so : 0 ≡ n = cc same in sym so)
    (λ miss. let none : None ≡ Some n = sym (cond-false (is_place width height u v) (Some 0) None miss) ∙ there in absurd (cc none))
    (cases_Bool (is_place width height u v))

-- one that is made by places is one that is filled
pub made_zeros : (width height : ℕ) → from_places {T = ℕ} width height (λ x y. 0) ≡ uniform width height 0
unfolding from_places table uniform
made_zeros width height = refl
