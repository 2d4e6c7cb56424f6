-- The cells of a stretch, and the list with other cells in its place.
use Rattle.std.proofs.Common.{◌≡◌, ℕ, ◌+◌, ◌-◌, ◌<◌, ◌≤◌, ◌⊎◌, inl, inr, List, ◌++◌, length, take, drop, ap, ◌∙◌, arith, length-append, length-take, length-drop}
use Rattle.std.specs.List.{slice_get}
use Rattle.std.proofs.lemmas.List.{append-nil}
use Rattle.std.proofs.Math.Seq.{drop-length}
use Rattle.image_model.specs.Windows.{Stretch, stretch_cells, with_stretch, whole}
use Rattle.image_model.proofs.Cells.{slice_get-take, slice_get-drop, slice_get-append_left, slice_get-append_right}

module _ {T : Type 0} (cells : List T) (s : Stretch) where
  -- cell j of a stretch lies j after its start
  pub stretch_cell : (j : ℕ) → j < s.len → slice_get (stretch_cells cells s) j ≡ slice_get cells (s.start + j)
  stretch_cell j h = slice_get-take s.len (drop s.start cells) j h ∙ slice_get-drop s.start cells j

  pub length-stretch_cells : s.start + s.len ≤ length cells → length (stretch_cells cells s) ≡ s.len
  length-stretch_cells h = omega (arith, length-take s.len (drop s.start cells), length-drop s.start cells)

  module _ (others : List T) (inside : s.start + s.len ≤ length cells) where
    length_before : length (take s.start cells) ≡ s.start
    length_before = omega (arith, length-take s.start cells)

    pub length-with_stretch : length others ≡ s.len → length (with_stretch cells s others) ≡ length cells
    length-with_stretch e = grind (arith, length-append, length-drop, length_before)

    -- the cells of the stretch are the others
    pub with_stretch_at : (j : ℕ) → j < length others → slice_get (with_stretch cells s others) (s.start + j) ≡ slice_get others j
    with_stretch_at j h = grind (arith, slice_get-append_left, slice_get-append_right, length_before)

    -- each cell before the stretch or after it stays
    pub with_stretch_beside : length others ≡ s.len → (k : ℕ) → (k < s.start) ⊎ (s.start + s.len ≤ k) → slice_get (with_stretch cells s others) k ≡ slice_get cells k
    with_stretch_beside e k (inl before) = grind (arith, slice_get-take, slice_get-append_left, length_before)
    with_stretch_beside e k (inr after) =
        let j : ℕ = k - (s.start + s.len) in
        let far : k ≡ s.start + (s.len + j) = omega arith in
        let back : s.start + s.len + j ≡ k = omega arith in
        ap (slice_get (with_stretch cells s others)) far
        ∙ slice_get-append_right (take s.start cells) (others ++ drop (s.start + s.len) cells) s.start (s.len + j) length_before
        ∙ slice_get-append_right others (drop (s.start + s.len) cells) s.len j e
        ∙ slice_get-drop (s.start + s.len) cells j
        ∙ ap (slice_get cells) back
    -- a write to a cell of a stretch is a write to that cell of the list

-- other cells in the place of all
pub with_whole : {T : Type 0} (cells others : List T) → with_stretch cells (whole cells) others ≡ others
with_whole cells others = let end : 0 + length cells ≡ length cells = omega arith in ap (λ n. others ++ drop n cells) end ∙ ap (λ rest. others ++ rest) (drop-length cells) ∙ append-nil others
