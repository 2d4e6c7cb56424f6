-- An image of which a window is written.
use Rattle.std.proofs.Common.{◌≡◌, ℕ, ◌-◌, List, ◌++◌, length, take, drop-drop, sym, ap, ◌∙◌, subst}
use borrow.Rule.Slice.PartMut.{mid_of, put_mid}
use Rattle.image_model.specs.Layout.{Layout, layout, SameOutside}
use Rattle.image_model.specs.Grid.{Grid, grid_of, patch}
use Rattle.image_model.specs.Windows.{Window, Stretch, exact_window, window_view}
use Rattle.image_model.proofs.Windows.{HasWindow, stretch_window, exact_has, handed_on, handed_on_grid, handed_on_outside, exact_grid}
use Rattle.image_shape.specs.declared.shape.Shape.{Shape}
use Rattle.image_shape.specs.Shape.{shaped}
use Rattle.image_writes.specs.Part.{IsPart, cells_upto}
use Rattle.image_writes.specs.Written.{Becomes}

-- the cells of a window, in its shape
module _ {T : Type 0} (cells : List T) (outer inner : Shape) (w : Window) (from upto : ℕ) (p : IsPart (length cells) outer inner w from upto) where
  abbrev l : Layout T
  l = shaped cells outer

  abbrev s : Stretch
  s = cells_upto from upto

  -- its cells
  abbrev part : Layout T
  part = shaped (mid_of from (upto - from) cells) inner

  sized : (n : List T) → shaped n inner ≡ layout n w.width w.height l.stride
  sized n = λ i. layout n (p.width i) (p.height i) (p.stride i)

  part_is : part ≡ exact_window l w
  part_is = sized (mid_of from (upto - from) cells) ∙ ap (stretch_window l w) p.is

  pub part_shows : grid_of part ≡ window_view (grid_of l) w
  part_shows = ap (λ (m : Layout T). grid_of m) part_is ∙ exact_grid l w p.fits p.inside

  -- other cells in their place
  module _ (n : List T) (same : SameOutside part (shaped n inner)) where
    abbrev left : List T
    left = put_mid from (upto - from) cells n

    has : HasWindow (length cells) l.stride w s
    has = subst (HasWindow (length cells) l.stride w) (sym p.is) (exact_has (length cells) l.stride l.width l.height w p.fits p.inside)

    left_is : shaped left outer ≡ handed_on l s n
    left_is = ap (λ rest. shaped (take from cells ++ (n ++ rest)) outer) (drop-drop (upto - from) from cells)

    stays : SameOutside (stretch_window l w s) (shaped n inner)
    stays = subst (λ (m : Layout T). SameOutside m (shaped n inner)) (part_is ∙ sym (ap (stretch_window l w) p.is)) same

    pub part_grid : grid_of (shaped left outer) ≡ patch (grid_of l) w.left w.top (grid_of (shaped n inner))
    part_grid = ap (λ (m : Layout T). grid_of m) left_is ∙ handed_on_grid l w s has (shaped n inner) stays p.holds_width p.inside

    pub part_outside : SameOutside l (shaped left outer)
    part_outside = subst (λ (m : Layout T). SameOutside l m) (sym left_is) (handed_on_outside l w s has (shaped n inner) stays p.inside)

  -- so a window that becomes a grid is a patch of it
  pub part_becomes : (n : List T) (g : Grid T) → Becomes inner (mid_of from (upto - from) cells) n g → Becomes outer cells (put_mid from (upto - from) cells n) (patch (grid_of l) w.left w.top g)
  part_becomes n g b = record { grid = part_grid n b.outside ∙ ap (patch (grid_of l) w.left w.top) b.grid; outside = part_outside n b.outside }
