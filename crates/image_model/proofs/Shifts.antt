-- What moved rows show: the target window has the source window's old pixels, and the outside stays.
use Rattle.std.proofs.Common.{◌≡◌, true, false, ℕ, ◌+◌, ◌-◌, ◌*◌, ◌<◌, ◌≤◌, List, refl, sym, ap, ◌∙◌, arith}
use Rattle.std.specs.List.{slice_get}
use Rattle.std.proofs.lemmas.Bool.{true≢false}
use Rattle.std.proofs.lemmas.Nat.{same_from_place}
use Rattle.std.proofs.Math.Nat.{add-mul, mul_comm}
use Rattle.image_model.specs.Layout.{Layout, cell_of, pixel, SameOutside}
use Rattle.image_model.specs.Grid.{grid_of, covers, patch, view}
use Rattle.image_model.specs.Windows.{Window, IsInside, window_view}
use Rattle.image_model.specs.Shifts.{MovesRows, IsCellOf}
use Rattle.image_model.proofs.Grids.{covers_decides, pixel_at, at_place, is_patch}

-- the cell of a place of a window is that of the corner plus the place
in_window : (stride corner x y : ℕ) (w : Window) → corner ≡ stride * w.top + w.left → corner + y * stride + x ≡ (w.top + y) * stride + (w.left + x)
in_window stride corner x y w e = omega (arith, add-mul w.top y stride, mul_comm stride w.top)

module _ {T : Type 0} (l : Layout T) (new : List T) (v w : Window) (from to : ℕ)
    (source : 0 < w.width → 0 < w.height → from ≡ l.stride * v.top + v.left) (target : 0 < w.width → 0 < w.height → to ≡ l.stride * w.top + w.left)
    (moves : MovesRows l.cells new l.stride from to w.width w.height) (inside : IsInside l.width l.height w) where
  -- a cell of the target window is that of a place
  place_of : (k : ℕ) → IsCellOf to l.stride w.width w.height k → (x : ℕ) × (y : ℕ) × (x < w.width) × (y < w.height) × (cell_of l (w.left + x) (w.top + y) ≡ k)
  place_of k at = grind arith

  -- the outside stays
  pub moved_outside : SameOutside l (record l { cells = new })
  moved_outside = record {
    width_stays = refl;
    height_stays = refl;
    stride_stays = refl;
    length_stays = moves.length_stays;
    padding_stays = λ k padding. moves.others_stay k (λ at.
        let p = place_of k at in
        padding.no_place (w.left + p.0) (w.top + p.1) (omega (arith, p.2, inside)) (omega (arith, p.3, inside)) p.4);
  }

  -- the grid is patched with the view of the source
  pub moved_grid : l.width ≤ l.stride → IsInside l.width l.height v → v.width ≡ w.width → v.height ≡ w.height
      → grid_of (record l { cells = new }) ≡ patch (grid_of l) w.left w.top (window_view (grid_of l) v)
  unfolding grid_of view patch
  moved_grid wide from_inside same_width same_height =
      is_patch (grid_of l) w.left w.top (window_view (grid_of l) v) (pixel (record l { cells = new })) in_target beside
    where
      in_target : (a b : ℕ) → a < l.width → b < l.height → covers w.left w.top v.width v.height a b ≡ true
          → pixel (record l { cells = new }) a b ≡ (window_view (grid_of l) v).pixel (a - w.left) (b - w.top)
      in_target a b in_a in_b hit =
          let c = (covers_decides w.left w.top v.width v.height a b).0 hit in
          let x : ℕ = a - w.left in
          let y : ℕ = b - w.top in
          let column : x < w.width = omega (arith, c, same_width) in
          let line : y < w.height = omega (arith, c, same_height) in
          let same_a : w.left + x ≡ a = omega (arith, c) in
          let same_b : w.top + y ≡ b = omega (arith, c) in
          let there : cell_of l (w.left + x) (w.top + y) ≡ cell_of l a b = ap (cell_of l (w.left + x)) same_b ∙ ap (λ n. cell_of l n b) same_a in
          ap (slice_get new) (sym (in_window l.stride to x y w (target (omega (arith, column)) (omega (arith, line))) ∙ there))
          ∙ moves.moved x y column line
          ∙ ap (slice_get l.cells) (in_window l.stride from x y v (source (omega (arith, column)) (omega (arith, line))))
          ∙ sym (pixel_at l (v.left + x) (v.top + y) (omega (arith, from_inside, column, same_width)) (omega (arith, from_inside, line, same_height)))
          ∙ sym (at_place v.width v.height (λ m n. (grid_of l).pixel (v.left + m) (v.top + n)) x y (omega (arith, column, same_width)) (omega (arith, line, same_height)))

      beside : (a b : ℕ) → a < l.width → b < l.height → covers w.left w.top v.width v.height a b ≡ false → pixel (record l { cells = new }) a b ≡ (grid_of l).pixel a b
      beside a b in_a in_b miss =
          let other : IsCellOf to l.stride w.width w.height (cell_of l a b) → ⊥ = λ at.
          let p = place_of (cell_of l a b) at in
          let one = same_from_place (w.top + p.1) (w.left + p.0) b a l.stride (omega (arith, inside, p.2, wide)) (omega arith) p.4 in
          let hit = (covers_decides w.left w.top v.width v.height a b).1 (omega (arith, one), omega (arith, one), omega (arith, one, p.2, same_width), omega (arith, one, p.3, same_height)) in
          true≢false (sym hit ∙ miss) in
          moves.others_stay (cell_of l a b) other ∙ sym (pixel_at l a b in_a in_b)
