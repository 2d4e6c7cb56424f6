-- An image of which all cells are replaced by as many.
use Rattle.std.proofs.Common.{◌≡◌, ◌+◌, ◌≤◌, List, length, sym, ap, subst, ◌∙◌, arith}
use Rattle.image_model.specs.Windows.{Stretch, with_stretch}
use Rattle.image_model.proofs.Stretches.{with_whole}
use Rattle.image_shape.specs.Shape.{shaped}
use Rattle.imgref.specs.declared.img.Img.{Img}
use Rattle.image_model.specs.Grid.{Grid, grid_of}
use Rattle.image_model.specs.Layout.{SameOutside}
use Rattle.imgref.specs.Image.{buf_of, shape_of, with_all, layout_by, grid_by}

module _ {C T : Type 0} (cells : C → List T) (with_cells : C → Stretch → List T → C)
    (others_stay : (c : C) (s : Stretch) (ws : List T) → s.start + s.len ≤ length (cells c) → length ws ≡ s.len → cells (with_cells c s ws) ≡ with_stretch (cells c) s ws)
    (i j : Img C) (ys : List T) (replaced : j ≡ with_all cells with_cells i ys) (as_many : length ys ≡ length (cells (buf_of i))) where
  new_cells : cells (buf_of j) ≡ ys
  new_cells = grind (arith, with_whole)

  pub new_layout : layout_by cells j ≡ record (layout_by cells i) { cells = ys }
  new_layout = λ t. shaped (new_cells t) (shape_of (replaced t))

  new_container : j ≡ with_all cells with_cells i (cells (buf_of j))
  new_container = replaced ∙ ap (with_all cells with_cells i) (sym new_cells)

  -- what holds of the layout with these cells holds of the image
  pub shows : (g : Grid T) → grid_of (record (layout_by cells i) { cells = ys }) ≡ g → SameOutside (layout_by cells i) (record (layout_by cells i) { cells = ys })
      → (grid_by cells j ≡ g) × SameOutside (layout_by cells i) (layout_by cells j) × (j ≡ with_all cells with_cells i (cells (buf_of j)))
  shows g shown outside = (ap grid_of new_layout ∙ shown, subst (SameOutside (layout_by cells i)) (sym new_layout) outside, new_container)
