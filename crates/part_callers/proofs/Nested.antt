-- The window that a path comes to: what is written in its cells is in the image at the path's corner.
use Rattle.std.proofs.Common.{◌≡◌, ◌+◌, ◌≤◌, List, length, refl, sym, ap, ◌∙◌, subst, None}
use Rattle.image_model.specs.Grid.{grid_of}
use Rattle.image_model.specs.Layout.{Layout, Fits, SameOutside}
use Rattle.image_model.specs.Windows.{Window, Stretch, IsInside, whole, with_stretch, first_outside, path_stretch, path_window, path_layout}
use Rattle.image_model.proofs.Paths.{path_has, path_fits, path_grid, path_inside}
use Rattle.image_model.proofs.Stretches.{length-stretch_cells, length-with_stretch}
use Rattle.image_model.proofs.Windows.{HasWindow, stretch_window, handed_on, handed_on_grid, handed_on_outside}
use Rattle.imgref.specs.declared.img.Img.{Img}
use Rattle.imgref.specs.Image.{width_of, height_of, stride_of, layout_by}
use Rattle.imgref_examples.proofs.Replaced.{new_layout}
use Rattle.part_callers.specs.Paths.{with_path, IsNested}

module _ {C T : Type 0} (cells : C → List T) (with_cells : C → Stretch → List T → C)
    (others_stay : (c : C) (s : Stretch) (ws : List T) → s.start + s.len ≤ length (cells c) → length ws ≡ s.len → cells (with_cells c s ws) ≡ with_stretch (cells c) s ws)
    (i : Img C) (path : List Window) (fits : Fits (layout_by cells i)) (inside : first_outside (width_of i) (height_of i) path ≡ None) (m : Layout T) (is : m ≡ path_layout (layout_by cells i) path) where
  abbrev l : Layout T
  l = layout_by cells i

  abbrev w : Window
  w = path_window l.width l.height path

  abbrev s : Stretch
  s = path_stretch l.stride (whole l.cells) path

  narrow : width_of i ≤ stride_of i
  narrow = i.holds_width

  has : HasWindow (length l.cells) l.stride w s
  has = path_has l path narrow fits inside

  all_inside : IsInside l.width l.height w
  all_inside = path_inside l.width l.height path inside

  module _ (left : List T) (stays : SameOutside m (record m { cells = left })) where
    same : SameOutside (stretch_window l w s) (record m { cells = left })
    same = subst (λ (v : Layout T). SameOutside v (record m { cells = left })) is stays

    as_many : length left ≡ s.len
    as_many = same.length_stays ∙ length-stretch_cells l.cells s has.within

    handed : layout_by cells (with_path cells with_cells i path left) ≡ handed_on l s left
    handed =
        new_layout cells with_cells others_stay i (with_path cells with_cells i path left) (with_stretch l.cells s left) refl (length-with_stretch l.cells s left has.within as_many)

  pub nested : IsNested cells with_cells i path m
  nested = record {
    fits = subst Fits (sym is) (path_fits l path narrow fits inside);
    same_width = ap (λ (k : Layout T). k.width) is;
    same_height = ap (λ (k : Layout T). k.height) is;
    shows = ap grid_of is ∙ path_grid l path narrow fits inside;
    grid = λ left stays. ap grid_of (handed left stays) ∙ handed_on_grid l w s has (record m { cells = left }) (same left stays) narrow all_inside;
    outside = λ left stays. subst (SameOutside l) (sym (handed left stays)) (handed_on_outside l w s has (record m { cells = left }) (same left stays) all_inside);
  }
