-- What a loop over places that keeps one value has reached.
use Rattle.std.proofs.Common.{◌≡◌, ℕ, ◌+◌, refl, sym, ap, ◌∙◌, add-one}
use Rattle.image_model.specs.Folds.{fold_upto}

module _ {A : Type 0} (step : A → ℕ → ℕ → A) (a : A) (width : ℕ) where
  -- no place yet
  pub fold_none : fold_upto step a width 0 0 ≡ a
  unfolding fold_upto
  fold_none = refl

  -- one place more
  pub fold_next : (x y : ℕ) → fold_upto step a width (x + 1) y ≡ step (fold_upto step a width x y) x y
  unfolding fold_upto
  fold_next x y = ap (λ n. fold_upto step a width n y) (add-one x)

  -- a row is at its end where the next one begins
  pub fold_row_ends : (x y : ℕ) → x ≡ width → fold_upto step a width x y ≡ fold_upto step a width 0 (y + 1)
  unfolding fold_upto
  fold_row_ends x y wide = ap (λ n. fold_upto step a width n y) wide ∙ ap (λ n. fold_upto step a width 0 n) (sym (add-one y))

-- these laws, for a caller's `using`
pub ruleset folds = (fold_none, fold_next, fold_row_ends)
