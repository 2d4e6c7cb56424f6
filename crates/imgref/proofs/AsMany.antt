-- An image that is left with as many cells as it had, whichever these are.
use Rattle.std.proofs.Common.{◌≡◌, ◌+◌, ◌≤◌, List, ◌++◌, length, take, drop, ap, ap₂, ◌∙◌, arith, length-append, length-take, length-drop}
use Rattle.std.proofs.lemmas.List.{append-nil, take_all, drop_all}
use Rattle.image_model.specs.Layout.{Fits}
use Rattle.image_model.specs.Windows.{Stretch, with_stretch, whole}
use Rattle.image_model.proofs.Stretches.{with_whole}
use Rattle.imgref.specs.declared.img.Img.{Img}
use Rattle.imgref.specs.Image.{buf_of, layout_by, as_many, with_all, KeepsCount, AnyCellsFit}

module _ {T : Type 0} (cells others : List T) where
  pub length-as_many : length (as_many cells others) ≡ length cells
  length-as_many = omega (arith, length-append (take (length cells) others) (drop (length others) cells), length-take (length cells) others, length-drop (length others) cells)

  -- where there are as many already, they are the others
  pub as_many_already : length others ≡ length cells → as_many cells others ≡ others
  as_many_already same = ap₂ (λ front back. front ++ back) (take_all (length cells) others (omega (arith, same))) (drop_all (length others) cells (omega (arith, same))) ∙ append-nil others

module _ {C T : Type 0} (cells : C → List T) (with_cells : C → Stretch → List T → C)
    (others_stay : (c : C) (s : Stretch) (ws : List T) → s.start + s.len ≤ length (cells c) → length ws ≡ s.len → cells (with_cells c s ws) ≡ with_stretch (cells c) s ws)
    (i : Img C) where
  -- the image has the cells that it was given, as many as before
  pub has_given : (ws : List T) → length ws ≡ length (cells (buf_of i)) → cells (buf_of (with_all cells with_cells i ws)) ≡ ws
  has_given ws same = others_stay (buf_of i) (whole (cells (buf_of i))) ws (omega arith) same ∙ with_whole (cells (buf_of i)) ws

  pub keeps_count : KeepsCount cells with_cells i
  keeps_count left =
      let ws : List T = as_many (cells (buf_of i)) (cells (buf_of left)) in
      let same : length ws ≡ length (cells (buf_of i)) = length-as_many (cells (buf_of i)) (cells (buf_of left)) in
      ap length (has_given ws same) ∙ same

  pub any_cells_fit : Fits (layout_by cells i) → AnyCellsFit cells with_cells i
  any_cells_fit fits left wide high = let long = fits wide high in omega (arith, long, keeps_count left)
