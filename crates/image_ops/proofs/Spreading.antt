-- A row whose cells become the first ones of their tiles, from left to right.
use Rattle.std.proofs.Common.{◌≡◌, ℕ, ◌+◌, ◌-◌, ◌<◌, ◌≤◌, inl, inr, List, ◌++◌, length, min, set, take, drop, replicate, Some, refl, sym, ap, subst, ◌∙◌, arith, length-take, length-drop}
use Rattle.std.specs.List.{slice_get}
use Rattle.std.proofs.lemmas.Bool.{cases_lt}
use Rattle.std.proofs.lemmas.List.{length-set, length-replicate}
use Rattle.image_model.specs.Tiles.{tile_start}
use Rattle.image_model.specs.Windows.{Stretch, with_stretch}
use Rattle.image_model.proofs.Cells.{slice_get-set_other, slice_get-replicate}
use Rattle.image_model.proofs.Stretches.{length-with_stretch, with_stretch_at, with_stretch_beside}
use Rattle.image_writes.specs.Mosaic.{IsSpread}
use Rattle.image_writes.proofs.CellByCell.{one_set}
use Rattle.image_writes.proofs.Gathering.{written}
use Rattle.image_writes.proofs.Corners.{first_start, start_of, next_start}

-- the cells before number x are spread, and those from it on are as before; a tile begins at the corner, which shows the pixel
pub record SpreadUpto {T : Type 0} (tile : ℕ) (old now : List T) (corner x : ℕ) : Type 0 where
  pub as_many : length now ≡ length old
  pub each : (k : ℕ) → k < x → slice_get now k ≡ slice_get old (tile_start tile k)
  pub others : (k : ℕ) → x ≤ k → slice_get now k ≡ slice_get old k
  pub starts : corner < length old → tile_start tile corner ≡ corner
  pub from : corner ≤ x
  pub within : x ≤ corner + tile

-- a part that was filled, as a loop leaves it
pub filled_part : {T : Type 0} (now line : List T) (corner len : ℕ) (pixel : T) → corner + len ≤ length now → line ≡ replicate (length (take (corner + len - corner) (drop corner now))) pixel
    → take corner now ++ (line ++ drop (corner + len - corner) (drop corner now)) ≡ with_stretch now (record { start = corner; len = len }) (replicate len pixel)
filled_part now line corner len pixel inside is =
    let many : length (take (corner + len - corner) (drop corner now)) ≡ len = omega (arith, inside, length-take (corner + len - corner) (drop corner now), length-drop corner now) in
    written now line corner (corner + len - corner) len (omega arith) ∙ ap (with_stretch now (record { start = corner; len = len })) (is ∙ ap (λ n. replicate n pixel) many)

module _ {T : Type 0} (tile : ℕ) (some : 0 < tile) (old : List T) where
  -- none yet
  pub none_spread : SpreadUpto tile old old 0 0
  none_spread = record {
    as_many = refl;
    each = λ k below. absurd (omega (arith, below));
    others = λ k above. refl;
    starts = λ _. first_start tile;
    from = omega arith;
    within = omega arith;
  }

  -- all
  pub all_spread : (now : List T) (corner x : ℕ) → x ≡ length old → SpreadUpto tile old now corner x → IsSpread tile old now
  all_spread now corner x all so = record { as_many = so.as_many; each = λ k below. so.each k (omega (arith, below, all)) }

  -- the next tile begins where the one before it ends
  pub new_corner : (now : List T) (corner x : ℕ) → x ≡ corner + tile → SpreadUpto tile old now corner x → SpreadUpto tile old now x x
  new_corner now corner x ends so = record {
    as_many = so.as_many;
    each = so.each;
    others = so.others;
    starts = λ below. ap (tile_start tile) ends ∙ next_start tile corner some (so.starts (omega (arith, below, so.from))) ∙ sym ends;
    from = omega arith;
    within = omega arith;
  }

  module _ (now : List T) (corner x : ℕ) (pixel : T) (so : SpreadUpto tile old now corner x) (shows : slice_get old corner ≡ Some pixel) where
    -- one cell more
    pub one_cell_more : x < corner + tile → x < length old → SpreadUpto tile old (set now x pixel) corner (x + 1)
    one_cell_more inside here = record {
      as_many = length-set now x pixel ∙ so.as_many;
      each =
          one_set (λ k p. p ≡ slice_get old (tile_start tile k)) now x pixel (omega (arith, here, so.as_many)) so.each
          (sym shows ∙ ap (slice_get old) (sym (start_of tile corner some (so.starts (omega (arith, here, so.from))) x so.from inside)));
      others = λ k above. slice_get-set_other now x k pixel (λ e. omega (arith, e, above)) ∙ so.others k (omega (arith, above));
      starts = so.starts;
      from = omega (arith, so.from);
      within = omega (arith, inside);
    }

  -- the cells up to the end of a stretch that is filled with a tile's pixel, where the stretch begins at the tile's corner
  module _ (now : List T) (corner len : ℕ) (pixel : T) (within : corner + len ≤ length now) (starts : tile_start tile corner ≡ corner) (shows : slice_get old corner ≡ Some pixel) where
    pub filled_cell : ((k : ℕ) → k < corner → slice_get now k ≡ slice_get old (tile_start tile k)) → (k : ℕ) → k < corner + len → k < corner + tile
        → slice_get (with_stretch now (record { start = corner; len = len }) (replicate len pixel)) k ≡ slice_get old (tile_start tile k)
    filled_cell each k in_part in_tile =
        let part : Stretch = record { start = corner; len = len } in
        let long : length (replicate len pixel) ≡ len = length-replicate len pixel in
        elim (cases_lt k corner) [
          | inl before ↦ with_stretch_beside now part (replicate len pixel) within long k (inl before) ∙ each k before
          | inr here ↦
              let at : corner + (k - corner) ≡ k = omega (arith, here) in
              sym (ap (slice_get (with_stretch now part (replicate len pixel))) at)
              ∙ with_stretch_at now part (replicate len pixel) within (k - corner) (omega (arith, in_part, here, long))
              ∙ slice_get-replicate len (k - corner) pixel (omega (arith, in_part, here))
              ∙ sym shows
              ∙ ap (slice_get old) (sym (start_of tile corner some starts k here in_tile))
        ]

  module _ (now : List T) (corner len : ℕ) (pixel : T) (so : SpreadUpto tile old now corner corner) (shows : slice_get old corner ≡ Some pixel) (below : corner < length old) (is_len : len ≡ min tile (length now - corner)) where
    abbrev part : Stretch
    part = record { start = corner; len = len }

    abbrev filled : List T
    filled = with_stretch now part (replicate len pixel)

    -- one tile more
    one_tile : SpreadUpto tile old filled (corner + len) (corner + len)
    one_tile =
        let within : corner + len ≤ length now = omega (arith, is_len, below, so.as_many) in
        let long : length (replicate len pixel) ≡ len = length-replicate len pixel in
        record {
          as_many = length-with_stretch now part (replicate len pixel) within long ∙ so.as_many;
          each = λ k upto. filled_cell now corner len pixel within (so.starts below) shows so.each k upto (omega (arith, upto, is_len));
          others = λ k above. with_stretch_beside now part (replicate len pixel) within long k (inr above) ∙ so.others k (omega (arith, above));
          starts = λ more.
              let whole : len ≡ tile = omega (arith, is_len, more, so.as_many) in
              ap (λ n. tile_start tile (corner + n)) whole ∙ next_start tile corner some (so.starts below) ∙ ap (λ n. corner + n) (sym whole);
          from = omega arith;
          within = omega arith;
        }

    -- the same of the cells that a loop leaves: those before the tile, the tile, and those after it
    pub one_tile_more : (line : List T) → line ≡ replicate (length (take (corner + len - corner) (drop corner now))) pixel → SpreadUpto tile old (take corner now ++ (line ++ drop (corner + len - corner) (drop corner now))) (corner + len) (corner + len)
    one_tile_more line is = subst (λ cells. SpreadUpto tile old cells (corner + len) (corner + len)) (sym (filled_part now line corner len pixel (omega (arith, is_len, below, so.as_many)) is)) one_tile

-- ---- tiles of two cells

module _ {T : Type 0} (old now : List T) (corner : ℕ) (so : SpreadUpto 2 old now corner corner) where
  -- the first cell of a pair stays
  first_cell : corner < length old → SpreadUpto 2 old now corner (corner + 1)
  first_cell here = record {
    as_many = so.as_many;
    each = λ k upto.
        elim (cases_lt k corner) [
          | inl before ↦ so.each k before
          | inr last ↦ let this : k ≡ corner = omega (arith, upto, last) in ap (slice_get now) this ∙ so.others corner (omega arith) ∙ ap (slice_get old) (sym (so.starts here) ∙ ap (tile_start 2) (sym this))
        ];
    others = λ k above. so.others k (omega (arith, above));
    starts = so.starts;
    from = omega arith;
    within = omega arith;
  }

  -- the second cell becomes the first
  pub one_pair_more : (pixel : T) → corner + 1 < length old → slice_get now corner ≡ Some pixel → SpreadUpto 2 old (set now (corner + 1) pixel) (corner + 2) (corner + 2)
  one_pair_more pixel below is =
      let shows : slice_get old corner ≡ Some pixel = sym (so.others corner (omega arith)) ∙ is in
      new_corner 2 (omega arith) old (set now (corner + 1) pixel) corner (corner + 2) (omega arith)
      (subst (SpreadUpto 2 old (set now (corner + 1) pixel) corner) (let e : corner + 1 + 1 ≡ corner + 2 = omega arith in e)
      (one_cell_more 2 (omega arith) old now corner (corner + 1) pixel (first_cell (omega (arith, below))) shows (omega arith) below))

  -- at the end at most one cell is left
  pub all_pairs : length old ≤ corner + 1 → IsSpread 2 old now
  all_pairs few = record {
    as_many = so.as_many;
    each = λ k below.
        elim (cases_lt k corner) [
          | inl before ↦ so.each k before
          | inr last ↦ (first_cell (omega (arith, below, last))).each k (omega (arith, below, few))
        ];
  }
