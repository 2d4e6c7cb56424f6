-- Flattening each tile of a size in turn makes its mosaic.
use Rattle.std.proofs.Common.{◌≡◌, ℕ, zero, suc, ◌+◌, ◌-◌, ◌*◌, ◌/◌, ◌<◌, ◌≤◌, true, inl, inr, List, [], drop, Some, Option, sym, ap, ◌∙◌, subst, arith, min, get_or, length, ap₂, IsTrue, nat_le, if◌then◌else◌}
use Rattle.std.specs.Option.{IsSomeAnd}
use Rattle.std.specs.List.{slice_get}
use Rattle.std.proofs.Math.Nat.{mul_comm}
use Rattle.std.proofs.lemmas.Bool.{cases_lt, cond-true, cond-false, le-leb, lt-leb, false_from_ne_true}
use Rattle.std.proofs.lemmas.List.{drop_all, drop_more}
use Rattle.std.proofs.lemmas.Nat.{div-add-mod', mod_below, div-mul-add, mul-add-lt}
use Rattle.std.proofs.lemmas.Option.{same_Some, slice_get-get_or}
use Rattle.image_model.specs.Grid.{Grid, grid, patch, covers}
use Rattle.image_model.specs.Windows.{Window}
use Rattle.image_model.specs.Tiles.{tile_count, tile, tiles, tile_start, has_place, LiesIn}
use Rattle.image_model.proofs.Grids.{covers_decides, at_place, same_grids}
use Rattle.image_model.proofs.Tiles.{tile_at, tile_counted, tile_start-is, tiles_cover, length-tiles}
use Rattle.image_writes.specs.Mosaic.{mosaic}
use Rattle.part_callers.specs.Flattening.{all_flattened}

-- the tile that a number lies in
in_its_tile : (size len x : ℕ) → 0 < size → x < len → (x / size * size ≤ x) × (x < x / size * size + min size (len - x / size * size))
in_its_tile size len x some below =
    let parts = div-add-mod' x size in
    let rest = mod_below x size some in
    (omega (arith, parts), omega (arith, parts, rest))

-- a tile's first number lies in it
start_in : (size x : ℕ) → 0 < size → tile_start size x / size ≡ x / size
start_in size x some =
    let e : tile_start size x ≡ x / size * size + 0 = sym (tile_start-is size x) ∙ (let z : x / size * size ≡ x / size * size + 0 = omega arith in z) in
    ap (λ n. n / size) e ∙ div-mul-add (x / size) size 0 some

start_below : (size x : ℕ) → tile_start size x ≤ x
start_below size x = omega arith

module _ (W H tw th : ℕ) (wide : 0 < tw) (high : 0 < th) where
  abbrev columns : ℕ
  columns = tile_count tw W

  abbrev count : ℕ
  count = tile_count th H * columns

  abbrev all : List Window
  all = tiles W H tw th

  -- the number of a place's tile
  abbrev number : ℕ → ℕ → ℕ
  number x y = y / th * columns + x / tw

  abbrev own : ℕ → ℕ → Window
  own x y = tile W H tw th (x / tw) (y / th)

  module _ (x y : ℕ) (column : x < W) (line : y < H) where
    across : x / tw < columns
    across = let p = in_its_tile tw W x wide column in tile_counted tw W (x / tw) wide (omega (arith, p))

    down : y / th < tile_count th H
    down = let p = in_its_tile th H y high line in tile_counted th H (y / th) high (omega (arith, p))

    own_at : slice_get all (number x y) ≡ Some (own x y)
    own_at = tile_at W H tw th wide high (x / tw) (y / th) across down

    own_has : has_place (own x y) x y ≡ true
    own_has =
        let left = in_its_tile tw W x wide column in
        let top = in_its_tile th H y high line in
        (covers_decides _ _ _ _ x y).1 (left.0, top.0, left.1, top.1)

    lies : (k : ℕ) (w : Window) → slice_get all k ≡ Some w → has_place w x y ≡ true → LiesIn all x y k
    lies k w is has = subst (λ o. IsSomeAnd o (λ v. IsTrue (has_place v x y))) (sym is) has

    only : (k : ℕ) (w : Window) → slice_get all k ≡ Some w → has_place w x y ≡ true → k ≡ number x y
    only k w is has =
        let one = tiles_cover W H tw th wide high x y column line in
        one.alone k (lies k w is has) ∙ sym (one.alone (number x y) (lies (number x y) (own x y) own_at own_has))

    below : number x y < count
    below = omega (arith, mul-add-lt (y / th) columns (x / tw) (tile_count th H) down across, mul_comm columns (tile_count th H))

    hits : (k : ℕ) (w : Window) → slice_get all k ≡ Some w → k ≡ number x y → w ≡ own x y
    hits k w is e = same_Some w (own x y) (sym is ∙ ap (slice_get all) e ∙ own_at)

  module _ {T : Type 0} where
    abbrev shown : (ℕ → ℕ → Option T) → Grid T
    shown f = grid W H f

    -- with the tiles from number k on flattened
    abbrev after : ℕ → (ℕ → ℕ → Option T) → ℕ → ℕ → Option T
    after k f x y = if nat_le k (number x y) then (shown f).pixel (tile_start tw x) (tile_start th y) else (shown f).pixel x y

    -- what one flattened window shows
    abbrev one : (ℕ → ℕ → Option T) → Window → ℕ → ℕ → Option T
    one f w x y = if covers w.left w.top w.width w.height x y then (grid w.width w.height (λ _ _. (shown f).pixel w.left w.top)).pixel (x - w.left) (y - w.top) else (shown f).pixel x y

    module _ (f : ℕ → ℕ → Option T) (k : ℕ) (w : Window) (is : slice_get all k ≡ Some w) (x y : ℕ) (column : x < W) (line : y < H) where
      -- beside the window nothing changes
      beside : (k ≡ number x y → ⊥) → (shown (one f w)).pixel x y ≡ (shown f).pixel x y
      beside other =
          at_place W H (one f w) x y column line
          ∙ cond-false (has_place w x y) _ _ (false_from_ne_true (has_place w x y) (λ hit. other (only x y column line k w is hit)))

      -- in it is its corner's pixel
      within : k ≡ number x y → (shown (one f w)).pixel x y ≡ (shown f).pixel (tile_start tw x) (tile_start th y)
      within e =
          let same : w ≡ own x y = hits x y column line k w is e in
          let has : has_place w x y ≡ true = ap (λ v. has_place v x y) same ∙ own_has x y column line in
          let c = (covers_decides w.left w.top w.width w.height x y).0 has in
          at_place W H (one f w) x y column line
          ∙ cond-true (has_place w x y) _ _ has
          ∙ at_place w.width w.height (λ _ _. (shown f).pixel w.left w.top) (x - w.left) (y - w.top) (omega (arith, c)) (omega (arith, c))
          ∙ ap (λ (v : Window). (shown f).pixel v.left v.top) same
          ∙ ap (λ u. (shown f).pixel u (y / th * th)) (tile_start-is tw x)
          ∙ ap (λ v. (shown f).pixel (tile_start tw x) v) (tile_start-is th y)

    step : (f : ℕ → ℕ → Option T) (k : ℕ) (w : Window) → slice_get all k ≡ Some w → (x y : ℕ) → x < W → y < H → after (k + 1) (one f w) x y ≡ after k f x y
    step f k w is x y column line =
        let u : ℕ = tile_start tw x in
        let v : ℕ = tile_start th y in
        let n : ℕ = number x y in
        elim (cases_lt k n) [
          | inl later ↦
              let same : number u v ≡ n = ap₂ (λ i j. j * columns + i) (start_in tw x wide) (start_in th y high) in
              cond-true (nat_le (k + 1) n) _ _ (le-leb (k + 1) n (omega arith))
              ∙ beside f k w is u v (omega (arith, start_below tw x)) (omega (arith, start_below th y)) (λ e. omega (arith, e, same, later))
              ∙ sym (cond-true (nat_le k n) _ _ (le-leb k n (omega arith)))
          | inr upto ↦
              cond-false (nat_le (k + 1) n) _ _ (lt-leb (k + 1) n (omega arith))
              ∙ (elim (cases_lt n k) [
                | inl before ↦ beside f k w is x y column line (λ e. omega (arith, e, before)) ∙ sym (cond-false (nat_le k n) _ _ (lt-leb k n before))
                | inr from ↦ within f k w is x y column line (omega (arith, upto, from)) ∙ sym (cond-true (nat_le k n) _ _ (le-leb k n (omega (arith, from))))
              ])
        ]

    -- flattening those from number k on
    go : (m k : ℕ) → k + m ≡ count → (f : ℕ → ℕ → Option T) → all_flattened (shown f) (drop k all) ≡ grid W H (after k f)
    unfolding patch
    go zero k all_of_them f =
        let none : drop k all ≡ [] = drop_all k all (omega (arith, length-tiles W H tw th wide high, all_of_them)) in
        ap (all_flattened (shown f)) none
        ∙ same_grids W H f (after k f) (λ x y column line.
        sym (cond-false (nat_le k (number x y)) _ _ (lt-leb k (number x y) (omega (arith, below x y column line, all_of_them)))
        ∙ at_place W H f x y column line))
    go (suc m) k all_of_them f =
        let there : k < length all = omega (arith, length-tiles W H tw th wide high, all_of_them) in
        let w : Window = get_or all k (own 0 0) in
        ap (all_flattened (shown f)) (drop_more all k (own 0 0) there)
        ∙ go m (k + 1) (omega (arith, all_of_them)) (one f w)
        ∙ same_grids W H (after (k + 1) (one f w)) (after k f) (step f k w (slice_get-get_or all k (own 0 0) there))

    pub mosaic_is : (f : ℕ → ℕ → Option T) → all_flattened (shown f) all ≡ mosaic tw th (shown f)
    mosaic_is f =
        go count 0 (omega arith) f
        ∙ same_grids W H (after 0 f) (λ x y. (shown f).pixel (tile_start tw x) (tile_start th y)) (λ x y column line. cond-true (nat_le 0 (number x y)) _ _ (le-leb 0 (number x y) (omega arith)))
