-- Tiles that are flattened one after the other.
use Rattle.std.proofs.Common.{◌≡◌, ◌+◌, ◌≤◌, ◌<◌, ℕ, List, [], ◌∷◌, length, sym, ap, ◌∙◌, arith, None, Some}
use Rattle.std.specs.Borrow.{MutBor}
use Rattle.std.proofs.lemmas.List.{nil_from_length}
use Rattle.std.proofs.lemmas.Bool.{cond-true}
use Rattle.image_model.specs.Layout.{Layout, Fits, SameOutside, is_fitting, pixel}
use Rattle.image_model.specs.Grid.{Grid, grid, grid_of, view, patch, uniform, is_place}
use Rattle.image_model.specs.Windows.{Window, window_view}
use Rattle.image_model.proofs.Grids.{same_grids, pixel_at, is_place_decides}
use Rattle.image_model.proofs.Places.{outside_trans, outside_fits, is_fitting_decides}
use Rattle.imgref.specs.Image.{buf_of, mut_layout}
use Rattle.image_tiles.specs.Tiling.{windows_left}
use Rattle.image_tiles.specs.Lending.{image_of, tiling_of, tiles_left}
use Rattle.image_tiles.specs.declared.tiles.TileCursor.{TileCursor}
use Rattle.part_callers.specs.Flattening.{flat, flattened, all_flattened}

-- a grid whose first pixel is this value, flattened
pub one_value : {T : Type 0} (l : Layout T) (width height : ℕ) (value : T) → pixel l 0 0 ≡ Some value → 0 < l.width → 0 < l.height → width ≡ l.width → height ≡ l.height → uniform width height value ≡ flat (grid_of l)
unfolding uniform grid_of
one_value l width height value first wide high same_width same_height =
    ap (λ w. uniform w height value) same_width
    ∙ ap (λ h. uniform l.width h value) same_height
    ∙ same_grids l.width l.height (λ _ _. Some value) (λ _ _. (grid_of l).pixel 0 0) (λ x y _ _. sym (pixel_at l 0 0 wide high ∙ first))

-- a view flattened is the grid of its corner's pixel
flat_view : {T : Type 0} (g : Grid T) (w : Window) → flat (window_view g w) ≡ grid w.width w.height (λ _ _. g.pixel w.left w.top)
unfolding view
flat_view g w = same_grids w.width w.height _ _ (λ x y column line.
    let zero_x : w.left + 0 ≡ w.left = omega arith in
    let zero_y : w.top + 0 ≡ w.top = omega arith in
    cond-true (is_place w.width w.height 0 0) (g.pixel (w.left + 0) (w.top + 0)) None ((is_place_decides w.width w.height 0 0).1 (omega arith, omega arith))
    ∙ ap (λ u. g.pixel u (w.top + 0)) zero_x ∙ ap (λ v. g.pixel w.left v) zero_y)

-- a window that is flattened flattens the grid there
pub flat_there : {T : Type 0} (g : Grid T) (w : Window) (m n : Grid T) → m ≡ window_view g w → n ≡ flat m → patch g w.left w.top n ≡ flattened g w
flat_there g w m n shows is = ap (patch g w.left w.top) (is ∙ ap flat shows ∙ flat_view g w)

-- some tiles are flattened, and flattening those that are left makes of both the same
pub record IsPartly {T : Type 0} (old now : TileCursor (MutBor (List T))) : Type 0 where
  pub same_reference : (buf_of (image_of now)).ghost_name ≡ (buf_of (image_of old)).ghost_name
  pub fits : Fits (mut_layout (image_of now))
  pub rest : all_flattened (grid_of (mut_layout (image_of now))) (windows_left (tiling_of now)) ≡ all_flattened (grid_of (mut_layout (image_of old))) (windows_left (tiling_of old))
  pub outside : SameOutside (mut_layout (image_of old)) (mut_layout (image_of now))

-- the tiles of an image that fits
pub all_left : {T : Type 0} (now : TileCursor (MutBor (List T))) → Fits (mut_layout (image_of now)) → tiles_left (λ s. s.now) now ≡ windows_left (tiling_of now)
all_left now fits = cond-true (is_fitting (mut_layout (image_of now))) (windows_left (tiling_of now)) [] ((is_fitting_decides (mut_layout (image_of now))).1 fits)

-- with none left it's done
pub all_done : {T : Type 0} (old now : TileCursor (MutBor (List T))) → IsPartly old now → length (tiles_left (λ s. s.now) now) ≤ 0
    → grid_of (mut_layout (image_of now)) ≡ all_flattened (grid_of (mut_layout (image_of old))) (windows_left (tiling_of old))
all_done old now part few =
    let none : windows_left (tiling_of now) ≡ [] = sym (all_left now part.fits) ∙ nil_from_length (tiles_left (λ s. s.now) now) (omega arith) in
    sym (ap (all_flattened (grid_of (mut_layout (image_of now)))) none) ∙ part.rest

-- one more
pub one_more : {T : Type 0} (old now next : TileCursor (MutBor (List T))) (w : Window) → IsPartly old now
    → (buf_of (image_of next)).ghost_name ≡ (buf_of (image_of now)).ghost_name
    → windows_left (tiling_of now) ≡ w ∷ windows_left (tiling_of next)
    → grid_of (mut_layout (image_of next)) ≡ flattened (grid_of (mut_layout (image_of now))) w
    → SameOutside (mut_layout (image_of now)) (mut_layout (image_of next)) → IsPartly old next
one_more old now next w part name left is outside = record {
  same_reference = name ∙ part.same_reference;
  fits = outside_fits (mut_layout (image_of now)) (mut_layout (image_of next)) outside part.fits;
  rest = ap (λ g. all_flattened g (windows_left (tiling_of next))) is ∙ sym (ap (all_flattened (grid_of (mut_layout (image_of now)))) left) ∙ part.rest;
  outside = outside_trans (mut_layout (image_of old)) (mut_layout (image_of now)) (mut_layout (image_of next)) part.outside outside;
}
