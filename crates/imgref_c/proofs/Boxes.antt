-- A blur of all of an image is what it shows then.
use Rattle.std.proofs.Common.{◌≡◌, ℕ, ◌+◌, refl, sym, ap, ◌∙◌, arith}
use Rattle.image_model.specs.Layout.{Layout, pixel}
use Rattle.image_model.specs.Grid.{grid_of, patch, view}
use Rattle.image_model.specs.Windows.{Window, window, window_view}
use Rattle.image_model.proofs.Grids.{same_grids, pixel_at}
use Rattle.imgref_c.specs.Blurs.{boxes_of}
use Rattle.imgref_c.proofs.Whole.{patched_whole}

module _ (l : Layout ℕ) where
  -- the window of all shows all
  whole_view : window_view (grid_of l) (window 0 0 l.width l.height) ≡ grid_of l
  unfolding grid_of view
  whole_view = same_grids l.width l.height (λ x y. (grid_of l).pixel (0 + x) (0 + y)) (pixel l)
      (λ x y column line.
      let across : 0 + x ≡ x = omega arith in
      let down : 0 + y ≡ y = omega arith in
      (λ i. (grid_of l).pixel (across i) (down i)) ∙ pixel_at l x y column line)

  -- so where it is blurred, all is
  pub whole_boxes : (w : Window) (channels across down : ℕ) → w ≡ window 0 0 l.width l.height → patch (grid_of l) w.left w.top (boxes_of channels across down (window_view (grid_of l) w)) ≡ boxes_of channels across down (grid_of l)
  unfolding grid_of
  whole_boxes w channels across down all =
      ap (λ (v : Window). patch (grid_of l) v.left v.top (boxes_of channels across down (window_view (grid_of l) v))) all
      ∙ ap (λ g. patch (grid_of l) 0 0 (boxes_of channels across down g)) whole_view
      ∙ sym (patched_whole l (boxes_of channels across down (grid_of l)) _ refl)
