-- Bounds of the pixels of an image, and an image that is made of what a grid shows.
use Rattle.std.proofs.Common.{◌≡◌, ℕ, ◌<◌, Some, unwrap_or, sym, ap, ◌∙◌, arith}
use Rattle.std.proofs.lemmas.Option.{unwrap_or-slice_get, slice_get-get_or}
use Rattle.image_model.specs.Layout.{Layout, Fits, cell_of, pixel}
use Rattle.image_model.specs.Grid.{grid_of, shown}
use Rattle.image_model.specs.ByPlace.{HasResults, from_places}
use Rattle.image_model.specs.Ranges.{AreBelow, HoldsOfEach}
use Rattle.image_model.specs.Tables.{table}
use Rattle.image_model.proofs.Grids.{pixel_at, same_grids}
use Rattle.image_model.proofs.Places.{cell_within}
use Rattle.image_model.proofs.Reading.{is_a_place}

-- pixels are below a bound if each result of the closure that made them is
pub results_below : (answers : ℕ → ℕ → ℕ → Type 0) (width height bound : ℕ) (l : Layout ℕ) → l.width ≡ width → l.height ≡ height → HasResults answers width height l
    → ((x y q : ℕ) → x < width → y < height → answers x y q → q < bound) → AreBelow bound (grid_of l)
results_below answers width height bound l wide high has small = record {
  each = λ x y p there.
      let place = is_a_place l x y p there in
      let column : x < width = omega (arith, place, wide) in
      let line : y < height = omega (arith, place, high) in
      small x y p column line (has x y p column line (sym (pixel_at l x y place.0 place.1) ∙ there));
}

-- pixels are below a bound if each call with one ensures it
pub each_below : (answers : ℕ → Unit {0} → Type 0) (bound : ℕ) (l : Layout ℕ) → HoldsOfEach answers l → ((p : ℕ) → answers p tt → p < bound) → AreBelow bound (grid_of l)
each_below answers bound l holds small = record {
  each = λ x y p there. let place = is_a_place l x y p there in small p (holds x y p place.0 place.1 (sym (pixel_at l x y place.0 place.1) ∙ there));
}

-- what a grid shows makes the grid again
pub shows_again : (l : Layout ℕ) → Fits l → from_places l.width l.height (shown (grid_of l)) ≡ grid_of l
unfolding from_places table grid_of
shows_again l fits = same_grids l.width l.height _ (pixel l) (λ x y column line.
    ap Some (ap (λ o. unwrap_or o 0) (pixel_at l x y column line) ∙ unwrap_or-slice_get l.cells (cell_of l x y) 0)
    ∙ sym (slice_get-get_or l.cells (cell_of l x y) 0 (cell_within l fits x y column line)))

-- these laws, for a caller's `using`
pub ruleset ranges = (results_below, each_below, shows_again)
