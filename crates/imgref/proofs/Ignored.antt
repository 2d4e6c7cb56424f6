-- A closure that ignores the old pixel: what it makes of an image that fits.
use Rattle.std.proofs.Common.{◌≡◌, ℕ, ◌<◌, Some, Option, sym, ap, ◌∙◌, arith}
use Rattle.std.specs.Option.{option_map, option_zip}
use Rattle.image_model.specs.Layout.{Layout, Fits}
use Rattle.image_model.specs.Grid.{grid, grid_of}
use Rattle.image_model.specs.Tables.{table}
use Rattle.image_model.specs.Mapped.{mapped}
use Rattle.image_model.specs.ByPlace.{IsFromPlaces, IsMappedByPlace, IsZipped, mapped_places, zipped, from_places}
use Rattle.imgref.specs.Sources.{IsMappedFrom}
use Rattle.image_model.proofs.Grids.{pixel_at, same_grids}
use Rattle.image_model.proofs.Mapped.{has_pixel}

-- each place by itself
pub by_place_alone : {T U : Type 0} (f : ℕ → ℕ → U) (l : Layout T) → Fits l → mapped_places (λ x y _. f x y) (grid_of l) ≡ from_places l.width l.height f
unfolding grid_of mapped_places table from_places
by_place_alone f l fits = same_grids l.width l.height _ _ (λ x y column line.
    let here = has_pixel l fits x y column line in
    ap (option_map (λ _. f x y)) (pixel_at l x y column line ∙ here.1))

-- each place by the other image's pixel
pub by_other_alone : {T U V : Type 0} (f : U → V) (l : Layout T) (other : Layout U) → Fits l → Fits other → other.width ≡ l.width → other.height ≡ l.height → zipped (λ _ q. f q) (grid_of l) (grid_of other) ≡ mapped f (grid_of other)
unfolding grid_of mapped zipped
by_other_alone {T} {U} {V} f l other fits other_fits wide high =
    same_grids l.width l.height _ _ (λ x y column line.
    let here = has_pixel l fits x y column line in
    let in_u : x < other.width = omega (arith, column, wide) in
    let in_v : y < other.height = omega (arith, line, high) in
    let there = has_pixel other other_fits x y in_u in_v in
    let seen = pixel_at other x y in_u in_v ∙ there.1 in
    ap (λ o. option_map (λ p. f p.1) (option_zip o ((grid_of other).pixel x y))) (pixel_at l x y column line ∙ here.1)
    ∙ ap (λ o. option_map (λ p. f p.1) (option_zip (Some here.0) o)) seen
    ∙ sym (ap (option_map f) seen))
    ∙ sym (ap (λ w. grid w other.height shows) wide ∙ ap (λ h. grid l.width h shows) high)
  where
    shows : ℕ → ℕ → Option V
    shows x y = option_map f ((grid_of other).pixel x y)

-- ---- the same of closures

pub places_alone : {T : Type 0} (answers : ℕ → ℕ → T → Type 0) (old new : Layout T) → Fits old → IsMappedByPlace (λ x y _ q. answers x y q) old new → IsFromPlaces answers old.width old.height new
places_alone answers old new fits all f gives = all (λ x y _. f x y) (λ x y p q column line here one. gives x y q column line one) ∙ by_place_alone f old fits

pub other_alone : {T U : Type 0} (answers : U → T → Type 0) (old : Layout T) (other : Layout U) (new : Layout T) → Fits old → Fits other → other.width ≡ old.width → other.height ≡ old.height → IsZipped (λ _ q r. answers q r) old other new → IsMappedFrom answers other new
other_alone answers old other new fits other_fits wide high all f gives =
    all (λ _ q. f q) (λ x y p q r column line here there one. gives x y q r (omega (arith, column, wide)) (omega (arith, line, high)) there one)
    ∙ by_other_alone f old other fits other_fits wide high
