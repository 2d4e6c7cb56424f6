-- A grid whose pixels a closure made is the one that the function makes which the closure is.
use Rattle.std.proofs.Common.{◌≡◌, ℕ, ◌<◌, Some, sym, ap, ◌∙◌, arith}
use Rattle.std.specs.Option.{option_map, option_zip}
use Rattle.image_model.specs.Layout.{Layout, Fits, SameOutside, pixel}
use Rattle.image_model.specs.Grid.{grid_of}
use Rattle.image_model.specs.Tables.{table}
use Rattle.image_model.specs.ByPlace.{zipped, HasZipAnswers, IsZipped, from_places, scaled, IsFromPlaces}
use Rattle.image_model.proofs.Places.{outside_fits}
use Rattle.image_model.proofs.Grids.{pixel_at, same_grids}
use Rattle.image_model.proofs.Mapped.{grid_decided, has_pixel}

-- the results for two images' pixels at each place decide the grid
pub is_zipped : {T U : Type 0} (answers : T → U → T → Type 0) (old : Layout T) (other : Layout U) (new : Layout T) → Fits old → Fits other → other.width ≡ old.width → other.height ≡ old.height → SameOutside old new → HasZipAnswers answers old other new → IsZipped answers old other new
unfolding grid_of zipped
is_zipped {T} {U} answers old other new fits other_fits wide high same has f gives =
    grid_decided old new _ same (λ x y column line.
    let first = has_pixel old fits x y column line in
    let in_u : x < other.width = omega (arith, column, wide) in
    let in_v : y < other.height = omega (arith, line, high) in
    let second = has_pixel other other_fits x y in_u in_v in
    let after = has_pixel new (outside_fits old new same fits) x y (omega (arith, column, same.width_stays)) (omega (arith, line, same.height_stays)) in
    let value = gives x y first.0 second.0 after.0 column line first.1 second.1 (has x y first.0 second.0 after.0 column line first.1 second.1 after.1) in
    after.1 ∙ ap Some value
    ∙ sym (ap (λ o. option_map (λ p. f p.0 p.1) (option_zip o ((grid_of other).pixel x y))) (pixel_at old x y column line ∙ first.1)
    ∙ ap (λ o. option_map (λ p. f p.0 p.1) (option_zip (Some first.0) o)) (pixel_at other x y in_u in_v ∙ second.1)))

-- and where each pixel is a result for its place
pub is_from_places : {T : Type 0} (answers : ℕ → ℕ → T → Type 0) (new : Layout T) → Fits new → ((x y : ℕ) (q : T) → x < new.width → y < new.height → pixel new x y ≡ Some q → answers x y q) → IsFromPlaces answers new.width new.height new
unfolding grid_of table from_places
is_from_places answers new fits has f gives = same_grids new.width new.height (pixel new) _ (λ x y column line.
    let here = has_pixel new fits x y column line in
    here.1 ∙ ap Some (gives x y here.0 column line (has x y here.0 column line here.1)))

-- ---- by a place of another size

-- a number below one size is scaled to one below the other
pub scaled_below : (k from to : ℕ) → k < to → 0 < from → scaled k from to < from
scaled_below k from to below some = grind arith
