-- Images whose pixels are looked up: an image of one value that is zipped with another one, and a table of a function.
use Rattle.std.proofs.Common.{◌≡◌, ℕ, ◌<◌, List, Some, None, Option, slice_index, refl, ap, ◌∙◌}
use Rattle.std.specs.Option.{option_map, option_zip}
use Rattle.image_model.specs.Layout.{Layout}
use Rattle.image_model.specs.Grid.{Grid, grid_of}
use Rattle.image_model.specs.Mapped.{mapped}
use Rattle.image_model.specs.ByPlace.{zipped, from_places, IsZipped}
use Rattle.image_model.specs.Ranges.{AreBelow}
use Rattle.image_model.specs.Tables.{table}
use Rattle.image_model.proofs.Grids.{at_place, same_grids}

module _ {T U : Type 0} where
  second_of : (h : U → T) (value : T) (o : Option U) → option_map (λ p. h p.1) (option_zip (Some value) o) ≡ option_map h o
  second_of h value None = refl
  second_of h value (Some q) = refl

  second_mapped : (h : U → T) (value : T) (g : Grid U) → zipped (λ _ q. h q) (from_places g.width g.height (λ _ _. value)) g ≡ mapped h g
  unfolding zipped from_places table mapped
  second_mapped h value g = same_grids g.width g.height _ _ (λ x y column line.
      ap (λ o. option_map (λ p. h p.1) (option_zip o (g.pixel x y))) (at_place g.width g.height (λ _ _. Some value) x y column line) ∙ second_of h value (g.pixel x y))

  -- what a zip leaves whose results are a function of the second pixel, in an image that was made in the other one's size
  pub zip_maps : (answers : T → U → T → Type 0) (old new : Layout T) (l : Layout U) (h : U → T) (value : T) (width height : ℕ) → IsZipped answers old l new → ((p : T) (q : U) (r : T) → answers p q r → r ≡ h q)
      → grid_of old ≡ from_places width height (λ _ _. value) → width ≡ l.width → height ≡ l.height → grid_of new ≡ mapped h (grid_of l)
  unfolding grid_of
  zip_maps answers old new l h value width height is each made wide high = is (λ _ q. h q) (λ x y p q r _ _ _ _ a. each p q r a)
      ∙ ap (λ g. zipped (λ _ q. h q) g (grid_of l)) (made ∙ ap (λ w. from_places w height (λ _ _. value)) wide ∙ ap (λ n. from_places l.width n (λ _ _. value)) high) ∙ second_mapped h value (grid_of l)

alike_at : (t : List ℕ) (h : ℕ → ℕ) (o : Option ℕ) → ((p : ℕ) → o ≡ Some p → slice_index t p ≡ h p) → option_map (slice_index t) o ≡ option_map h o
alike_at t h None is = refl
alike_at t h (Some p) is = ap Some (is p refl)

-- a table of a function maps bounded pixels as the function does
pub table_maps : (t : List ℕ) (h : ℕ → ℕ) (l : Layout ℕ) (bound : ℕ) → AreBelow bound (grid_of l) → ((v : ℕ) → v < bound → slice_index t v ≡ h v) → mapped (slice_index t) (grid_of l) ≡ mapped h (grid_of l)
unfolding mapped
table_maps t h l bound below is = same_grids (grid_of l).width (grid_of l).height _ _ (λ x y _ _. alike_at t h ((grid_of l).pixel x y) (λ p there. is p (below.each x y p there)))
