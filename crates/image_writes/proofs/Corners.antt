-- Where the tiles along one side begin.
use Rattle.std.proofs.Common.{◌≡◌, ℕ, suc, ◌+◌, ◌-◌, ◌*◌, ◌/◌, ◌%◌, ◌<◌, ◌≤◌, sym, ap, ◌∙◌, arith}
use Rattle.std.proofs.lemmas.Nat.{mod_below, div-mul-add}
use Rattle.std.proofs.Math.Nat.{add-mul, suc-mul}
use Rattle.image_model.specs.Tiles.{tile_start}
use Rattle.image_model.proofs.Tiles.{tile_start-is}

-- the first tile begins at 0
pub first_start : (size : ℕ) → tile_start size 0 ≡ 0
first_start size = omega arith

module _ (size c : ℕ) (some : 0 < size) (starts : tile_start size c ≡ c) where
  -- so many numbers from a tile's beginning on lie in it
  pub start_of : (x : ℕ) → c ≤ x → x < c + size → tile_start size x ≡ c
  start_of x from below =
      let there : c / size * size + (x - c) ≡ x = omega (arith, tile_start-is size c, from, starts) in
      let same : c / size ≡ x / size = sym (div-mul-add (c / size) size (x - c) (omega arith)) ∙ ap (λ n. n / size) there in
      sym (tile_start-is size x) ∙ sym (ap (λ n. n * size) same) ∙ tile_start-is size c ∙ starts

  -- and then the next one begins
  pub next_start : tile_start size (c + size) ≡ c + size
  next_start =
      let there : suc (c / size) * size + 0 ≡ c + size = omega (arith, tile_start-is size c, suc-mul (c / size) size, starts) in
      let same : suc (c / size) ≡ (c + size) / size = sym (div-mul-add (suc (c / size)) size 0 some) ∙ ap (λ n. n / size) there in
      sym (tile_start-is size (c + size)) ∙ sym (ap (λ n. n * size) same) ∙ (let e : suc (c / size) * size ≡ c + size = omega (arith, there) in e)

-- the beginning of a tile is that of its own
pub start_starts : (size x : ℕ) → 0 < size → tile_start size (tile_start size x) ≡ tile_start size x
start_starts size x some =
    let there : x / size * size + 0 ≡ tile_start size x = omega (arith, tile_start-is size x) in
    let same : x / size ≡ tile_start size x / size = sym (div-mul-add (x / size) size 0 some) ∙ ap (λ n. n / size) there in
    sym (tile_start-is size (tile_start size x)) ∙ sym (ap (λ n. n * size) same) ∙ tile_start-is size x

-- after the first number of a tile comes another one of it
pub start_before : (size y : ℕ) → 0 < size → 0 < y % size → tile_start size (y - 1) ≡ tile_start size y
start_before size y some within =
    start_of size (tile_start size y) some (start_starts size y some) (y - 1) (omega (arith, within)) (omega (arith, within, mod_below y size some))

-- a tile of one number begins with it
pub own_start : (x : ℕ) → tile_start 1 x ≡ x
own_start x = omega arith

-- ---- tiles of pixels of several cells

-- a cell of a row up to which a loop has come: the tile that it is in, or that ends there, begins with this pixel, at the corner
pub record IsReached (size tile corner x : ℕ) : Type 0 where
  pub pixel : ℕ
  pub starts : tile_start tile pixel ≡ pixel
  pub at : corner ≡ pixel * size
  pub from : corner ≤ x
  pub within : x ≤ corner + tile * size

module _ (size tile : ℕ) where
  -- the first cell
  pub none_reached : IsReached size tile 0 0
  none_reached = record { pixel = 0; starts = first_start tile; at = omega arith; from = omega arith; within = omega arith }

  module _ (corner x : ℕ) (so : IsReached size tile corner x) where
    -- a later cell of the tile, or its end
    pub later_reached : (y : ℕ) → x ≤ y → y ≤ corner + tile * size → IsReached size tile corner y
    later_reached y after upto = record { pixel = so.pixel; starts = so.starts; at = so.at; from = omega (arith, so.from, after); within = upto }

    -- where a tile ends, the next one begins
    pub next_reached : 0 < tile → x ≡ corner + tile * size → IsReached size tile x x
    next_reached wide ends = record {
      pixel = so.pixel + tile;
      starts = next_start tile so.pixel wide so.starts;
      at = omega (arith, so.at, ends, add-mul so.pixel tile size);
      from = omega arith;
      within = omega arith;
    }
