-- Loops that read places: what a pixel that was read says of the grid.
use Rattle.std.proofs.Common.{◌≡◌, ◌≢◌, ℕ, ◌<◌, Some, None, refl, sym, ◌∙◌, ⊎_elim}
use Rattle.std.proofs.lemmas.Bool.{cond-false, cases_Bool}
use Rattle.image_model.specs.Layout.{Layout, pixel}
use Rattle.image_model.specs.Grid.{grid_of, is_place}
use Rattle.image_model.proofs.Grids.{is_place_decides, pixel_at}
use Rattle.image_model.proofs.Places.{cell_within}

-- where an image shows a pixel, there is a place
pub is_a_place : {T : Type 0} (l : Layout T) (u v : ℕ) (p : T) → (grid_of l).pixel u v ≡ Some p → (u < l.width) × (v < l.height)
unfolding grid_of
is_a_place l u v p there =
    ⊎_elim
    (λ hit. (is_place_decides l.width l.height u v).0 hit)
    (λ miss. let nothing = sym (cond-false (is_place l.width l.height u v) (pixel l u v) None miss) ∙ there in absurd (cc nothing))
    (cases_Bool (is_place l.width l.height u v))

-- the pixel that was read is the one that the grid shows
pub pixel_read : {T : Type 0} (l : Layout T) (x y : ℕ) (p : T) → x < l.width → y < l.height → pixel l x y ≡ Some p → (grid_of l).pixel x y ≡ Some p
pixel_read l x y p column line there = pixel_at l x y column line ∙ there

-- a pixel that isn't the value says that the grid doesn't show the value there
pub other_pixel : {T : Type 0} (l : Layout T) (x y : ℕ) (p value : T) → x < l.width → y < l.height → pixel l x y ≡ Some p → p ≢ value → (grid_of l).pixel x y ≢ Some value
other_pixel l x y p value column line there other = λ e. let same = sym there ∙ sym (pixel_at l x y column line) ∙ e in other (cc same)

-- the grid of a layout has its size
pub grid_width : {T : Type 0} (l : Layout T) → (grid_of l).width ≡ l.width
unfolding grid_of
grid_width l = refl

pub grid_height : {T : Type 0} (l : Layout T) → (grid_of l).height ≡ l.height
unfolding grid_of
grid_height l = refl

-- these laws, for a caller's `using`
pub ruleset reading = (cell_within, is_a_place, pixel_at, pixel_read, other_pixel, grid_width, grid_height)
