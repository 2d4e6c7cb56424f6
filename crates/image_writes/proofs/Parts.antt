-- Numbers by equal parts: which part each lies in, and where in it.
use Rattle.std.proofs.Common.{◌≡◌, ℕ, suc, ◌+◌, ◌-◌, ◌*◌, ◌/◌, ◌%◌, ◌<◌, ◌≤◌, sym, ap, ap₂, ◌∙◌, arith}
use Rattle.std.proofs.lemmas.Nat.{div-mul-add, mod-mul-add, div-add-mod', mod_below, le-div, div_below, mul-le}
use Rattle.std.proofs.Math.Nat.{suc-mul, add-mul}
use Rattle.image_model.specs.Tiles.{tile_start}
use Rattle.image_writes.specs.Mosaic.{shown_column}
use Rattle.image_writes.proofs.Corners.{start_of, own_start}

module _ (n x : ℕ) (some : 0 < n) (far : n ≤ x) where
  -- a part before
  back : (x / n - 1) * n + x % n ≡ x - n
  back =
      let one : 1 ≤ x / n = le-div 1 x n some (omega arith) in
      let next : suc (x / n - 1) * n ≡ x / n * n = ap (λ k. k * n) (let e : suc (x / n - 1) ≡ x / n = omega (arith, one) in e) in
      omega (arith, div-add-mod' x n, suc-mul (x / n - 1) n, next, far)

  pub part_before : (x - n) / n ≡ x / n - 1
  part_before = ap (λ k. k / n) (sym back) ∙ div-mul-add (x / n - 1) n (x % n) (mod_below x n some)

  pub place_before : (x - n) % n ≡ x % n
  place_before = ap (λ k. k % n) (sym back) ∙ mod-mul-add (x / n - 1) n (x % n) (mod_below x n some)

-- the number of a part lies at or before each number of it
pub shown_before : (size tile x : ℕ) → shown_column size tile x ≤ x
shown_before size tile x = omega (arith, mul-le (tile_start tile (x / size)) size (x / size) size (omega arith) (omega arith), div-add-mod' x size)

-- cells that are pixels themselves
pub of_one_cell : (tile x : ℕ) → shown_column 1 tile x ≡ tile_start tile x
of_one_cell tile x = let one : x / 1 ≡ x = omega arith in let none : x % 1 ≡ 0 = omega arith in ap₂ (λ q r. tile_start tile q * 1 + r) one none ∙ (let e : tile_start tile x * 1 + 0 ≡ tile_start tile x = omega arith in e)

-- tiles of one pixel show it
pub of_one_pixel : (size x : ℕ) → shown_column size 1 x ≡ x
of_one_pixel size x = ap (λ q. q * size + x % size) (own_start (x / size)) ∙ div-add-mod' x size

-- the pixel with which a tile begins
module _ (size tile pixel x : ℕ) (some : 0 < size) (starts : tile_start tile pixel ≡ pixel) (from : pixel * size ≤ x) where
  -- shows itself
  pub shows_itself : x < pixel * size + size → shown_column size tile x ≡ x
  shows_itself below =
      let is : pixel * size + (x - pixel * size) ≡ x = omega (arith, from) in
      let here : x / size ≡ pixel = ap (λ k. k / size) (sym is) ∙ div-mul-add pixel size (x - pixel * size) (omega (arith, from, below)) in
      ap (λ q. q * size + x % size) (ap (tile_start tile) here ∙ starts ∙ sym here) ∙ div-add-mod' x size

  -- and each other pixel of the tile shows what the one before it shows
  pub shows_before : pixel * size + size ≤ x → x < pixel * size + tile * size → shown_column size tile (x - size) ≡ shown_column size tile x
  shows_before after below =
      let q : ℕ = x / size in
      let next : suc pixel ≤ q = le-div (suc pixel) x size some (omega (arith, suc-mul pixel size, after)) in
      let within : q < pixel + tile = div_below x size (pixel + tile) some (omega (arith, add-mul pixel tile size, below)) in
      let many : 0 < tile = omega (arith, next, within) in
      let same : tile_start tile (q - 1) ≡ tile_start tile q = start_of tile pixel many starts (q - 1) (omega (arith, next)) (omega (arith, within)) ∙ sym (start_of tile pixel many starts q (omega (arith, next)) within) in
      let far : size ≤ x = omega (arith, after) in
      ap₂ (λ k r. tile_start tile k * size + r) (part_before size x some far) (place_before size x some far) ∙ ap (λ k. k * size + x % size) same
