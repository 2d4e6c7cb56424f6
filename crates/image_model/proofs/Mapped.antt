-- A grid whose pixels were changed by a closure is the old one changed by the function that the closure is.
use Rattle.std.proofs.Common.{◌≡◌, ℕ, ◌<◌, Option, Some, sym, ap, ◌∙◌, arith, inl, inr}
use Rattle.std.specs.Option.{option_map}
use Rattle.std.proofs.lemmas.Option.{slice_get_cases}
use Rattle.image_model.specs.Layout.{Layout, Fits, SameOutside, cell_of, pixel}
use Rattle.image_model.specs.Grid.{grid, grid_of}
use Rattle.image_model.specs.ByPlace.{mapped_places, HasPlaceAnswers, IsMappedByPlace}
use Rattle.image_model.specs.Mapped.{mapped, HasAnswers, IsMapped}
use Rattle.image_model.proofs.Places.{cell_within, outside_fits}
use Rattle.image_model.proofs.Grids.{pixel_at, same_grids}

-- each place of a layout that fits has a pixel
pub has_pixel : {T : Type 0} (l : Layout T) → Fits l → (x y : ℕ) → x < l.width → y < l.height → (p : T) × (pixel l x y ≡ Some p)
has_pixel l fits x y column line =
    elim (slice_get_cases l.cells (cell_of l x y)).1 [
      | inl (p, _, here, _) ↦ (p, here)
      | inr (past, _) ↦ absurd (omega (arith, past, cell_within l fits x y column line))
    ]

-- the pixels at each place decide the grid of a layout whose size stays
pub grid_decided : {T : Type 0} (old new : Layout T) (what : ℕ → ℕ → Option T) → SameOutside old new → ((x y : ℕ) → x < old.width → y < old.height → pixel new x y ≡ what x y) → grid_of new ≡ grid old.width old.height what
unfolding grid_of
grid_decided old new what same each =
    ap (λ w. grid w new.height (pixel new)) same.width_stays
    ∙ ap (λ h. grid old.width h (pixel new)) same.height_stays
    ∙ same_grids old.width old.height (pixel new) what each

-- the answers at each place decide the grid, where a function of the place gives them
pub is_mapped_by_place : {T : Type 0} (answers : ℕ → ℕ → T → T → Type 0) (old new : Layout T) → Fits old → SameOutside old new → HasPlaceAnswers answers old new → IsMappedByPlace answers old new
unfolding grid_of mapped_places
is_mapped_by_place answers old new fits same has f gives =
    grid_decided old new _ same (λ x y column line.
    let before = has_pixel old fits x y column line in
    let after = has_pixel new (outside_fits old new same fits) x y (omega (arith, column, same.width_stays)) (omega (arith, line, same.height_stays)) in
    let value = gives x y before.0 after.0 column line before.1 (has x y before.0 after.0 column line before.1 after.1) in
    after.1 ∙ ap Some value ∙ sym (ap (option_map (f x y)) (pixel_at old x y column line ∙ before.1)))

-- so do those that a function of the old pixel gives
pub is_mapped : {T : Type 0} (answers : T → T → Type 0) (old new : Layout T) → Fits old → SameOutside old new → HasAnswers answers old new → IsMapped answers old new
unfolding mapped mapped_places
is_mapped answers old new fits same has f gives = is_mapped_by_place (λ x y. answers) old new fits same has (λ x y. f) gives
