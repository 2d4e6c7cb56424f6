-- What an image shows once the rows of a window of it were moved to another window.
use Rattle.std.proofs.Common.{◌≡◌, ◌+◌, ◌*◌, ◌<◌, ◌≤◌, List, length, ap, ◌∙◌, arith}
use Rattle.image_model.specs.Layout.{Layout, Fits, SameOutside}
use Rattle.image_model.specs.Grid.{grid_of, patch}
use Rattle.image_model.specs.Shifts.{MovesRows}
use Rattle.image_model.specs.Windows.{Window, Stretch, IsInside, window_view, exact_stretch}
use Rattle.image_model.proofs.Shifts.{moved_grid, moved_outside}
use Rattle.image_model.proofs.Windows.{exact_has}

module _ {T : Type 0} (l : Layout T) (v w : Window) (new : List T) (from to : Stretch)
    (fits : Fits l) (from_inside : IsInside l.width l.height v) (to_inside : IsInside l.width l.height w) (same_width : v.width ≡ w.width) (same_height : v.height ≡ w.height)
    (from_is : from ≡ exact_stretch l.stride v) (to_is : to ≡ exact_stretch l.stride w) (moves : MovesRows l.cells new l.stride from.start to.start w.width w.height) where
  from_corner : 0 < w.width → 0 < w.height → from.start ≡ l.stride * v.top + v.left
  from_corner wide high =
      ap (λ (s : Stretch). s.start) from_is
      ∙ (exact_has (length l.cells) l.stride l.width l.height v fits from_inside).begins (omega (arith, same_width, wide)) (omega (arith, same_height, high))

  to_corner : 0 < w.width → 0 < w.height → to.start ≡ l.stride * w.top + w.left
  to_corner wide high =
      ap (λ (s : Stretch). s.start) to_is ∙ (exact_has (length l.cells) l.stride l.width l.height w fits to_inside).begins wide high

  pub patched : l.width ≤ l.stride → grid_of (record l { cells = new }) ≡ patch (grid_of l) w.left w.top (window_view (grid_of l) v)
  patched narrow = moved_grid l new v w from.start to.start from_corner to_corner moves to_inside narrow from_inside same_width same_height

  pub kept : SameOutside l (record l { cells = new })
  kept = moved_outside l new v w from.start to.start from_corner to_corner moves to_inside
