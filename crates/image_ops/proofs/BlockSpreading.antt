-- A row whose cells become the first ones of their tiles by blocks, which write into the tile after their own.
use Rattle.std.proofs.Common.{◌≡◌, ℕ, ◌+◌, ◌-◌, ◌*◌, ◌/◌, ◌%◌, ◌<◌, ◌≤◌, ◌⊎◌, inl, inr, List, ◌++◌, length, set, take, drop, replicate, Some, refl, sym, ap, subst, ◌∙◌, arith, length-append, length-take, length-drop}
use Rattle.std.specs.List.{slice_get}
use Rattle.std.proofs.lemmas.Bool.{cases_lt}
use Rattle.std.proofs.lemmas.List.{length-set, length-replicate}
use Rattle.std.proofs.lemmas.Nat.{mod-mul-add, div-add-mod', mod_below, le-div, mul-le}
use Rattle.std.proofs.Math.Nat.{add-mul}
use Rattle.std.proofs.Math.Seq.{drop-length, take-length}
use Rattle.std.proofs.lemmas.List.{append-nil}
use Rattle.image_model.specs.Tiles.{tile_start}
use Rattle.image_model.proofs.Tiles.{tile_start-is}
use Rattle.image_model.specs.Windows.{Stretch, with_stretch}
use Rattle.image_model.proofs.Cells.{slice_get-set_same, slice_get-set_other, slice_get-take, slice_get-drop, slice_get-append_left, slice_get-append_right}
use Rattle.image_model.proofs.Stretches.{length-with_stretch, with_stretch_beside}
use Rattle.image_writes.specs.Mosaic.{IsSpread}
use Rattle.image_writes.proofs.Corners.{first_start, start_of, next_start}
use Rattle.image_ops.proofs.Spreading.{filled_cell, filled_part}

-- tiles counted from the beginning of a tile
module _ (tile c j : ℕ) (some : 0 < tile) where
  pub start_after : tile_start tile c ≡ c → tile_start tile (c + j) ≡ c + tile_start tile j
  start_after starts =
      let split : (c / tile + j / tile) * tile + j % tile ≡ c + j = omega (arith, add-mul (c / tile) (j / tile) tile, div-add-mod' j tile, tile_start-is tile c, starts) in
      let same : (c + j) % tile ≡ j % tile = sym (ap (λ n. n % tile) split) ∙ mod-mul-add (c / tile + j / tile) tile (j % tile) (mod_below j tile some) in
      omega (arith, same, div-add-mod' j tile)

  -- a tile that isn't the first
  pub start_far : tile ≤ j → tile ≤ tile_start tile j
  start_far far = omega (arith, mul-le 1 tile (j / tile) tile (le-div 1 j tile some (omega (arith, far))) (omega arith), tile_start-is tile j)

-- the cells before the corner are spread, the pixel is that of the corner, and those from the next tile on are as before
pub record SpreadAhead {T : Type 0} (tile : ℕ) (old now : List T) (corner : ℕ) (pixel : T) : Type 0 where
  pub as_many : length now ≡ length old
  pub each : (k : ℕ) → k < corner → slice_get now k ≡ slice_get old (tile_start tile k)
  pub others : (k : ℕ) → corner + tile ≤ k → slice_get now k ≡ slice_get old k
  pub starts : tile_start tile corner ≡ corner
  pub below : corner < length old
  pub shows : slice_get old corner ≡ Some pixel

module _ {T : Type 0} (tile : ℕ) (some : 0 < tile) (old : List T) where
  -- none yet
  pub none_ahead : (pixel : T) → slice_get old 0 ≡ Some pixel → 0 < length old → SpreadAhead tile old old 0 pixel
  none_ahead pixel shows below = record {
    as_many = refl;
    each = λ k before. absurd (omega (arith, before));
    others = λ k above. refl;
    starts = first_start tile;
    below = below;
    shows = shows;
  }

  module _ (now : List T) (corner : ℕ) (pixel : T) (so : SpreadAhead tile old now corner pixel) where
    module _ (len : ℕ) (next : T) (room : tile ≤ len) (short : len ≤ tile + tile) (inside : corner + len < length old) (then : slice_get now (corner + tile) ≡ Some next) where
      abbrev part : Stretch
      part = record { start = corner; len = len }

      abbrev filled : List T
      filled = with_stretch now part (replicate len pixel)

      one_block : SpreadAhead tile old filled (corner + tile) next
      one_block =
          let within : corner + len ≤ length now = omega (arith, inside, so.as_many) in
          let long : length (replicate len pixel) ≡ len = length-replicate len pixel in
          record {
            as_many = length-with_stretch now part (replicate len pixel) within long ∙ so.as_many;
            each = λ k upto. filled_cell tile some old now corner len pixel within so.starts so.shows so.each k (omega (arith, upto, room)) upto;
            others = λ k above. with_stretch_beside now part (replicate len pixel) within long k (inr (omega (arith, above, short))) ∙ so.others k (omega (arith, above));
            starts = next_start tile corner some so.starts;
            below = omega (arith, inside, room);
            shows = sym (so.others (corner + tile) (omega arith)) ∙ then;
          }

      -- the same of the cells that a loop leaves: those before the block, the block, and those after it
      pub one_block_more : (line : List T) → line ≡ replicate (length (take (corner + len - corner) (drop corner now))) pixel → SpreadAhead tile old (take corner now ++ (line ++ drop (corner + len - corner) (drop corner now))) (corner + tile) next
      one_block_more line is = subst (λ cells. SpreadAhead tile old cells (corner + tile) next) (sym (filled_part now line corner len pixel (omega (arith, inside, so.as_many)) is)) one_block

    -- the cells from the corner on, with the pixel at the corner, are spread at last
    module _ (line : List T) (spread : IsSpread tile (drop corner (set now corner pixel)) line) where
      abbrev marked : List T
      marked = set now corner pixel

      as_long : length marked ≡ length old
      as_long = length-set now corner pixel ∙ so.as_many

      front : length (take corner marked) ≡ corner
      front = omega (arith, length-take corner marked, as_long, so.below)

      -- a later cell of the line, before it was spread
      shown : (start : ℕ) → (start ≡ 0) ⊎ (tile ≤ start) → slice_get marked (corner + start) ≡ slice_get old (corner + start)
      shown start (inl none) =
          let at : corner + start ≡ corner = omega (arith, none) in
          ap (slice_get marked) at ∙ slice_get-set_same now corner pixel (omega (arith, so.below, so.as_many)) ∙ sym so.shows ∙ sym (ap (slice_get old) at)
      shown start (inr far) = slice_get-set_other now corner (corner + start) pixel (λ e. omega (arith, e, far, some)) ∙ so.others (corner + start) (omega (arith, far))

      where_it_starts : (j : ℕ) → (tile_start tile j ≡ 0) ⊎ (tile ≤ tile_start tile j)
      where_it_starts j = elim (cases_lt j tile) [
        | inl first ↦ inl (start_of tile 0 some (first_start tile) j (omega arith) (omega (arith, first)))
        | inr far ↦ inr (start_far tile 0 j some far)
      ]

      in_line : (j : ℕ) → corner + j < length old → slice_get (take corner marked ++ line) (corner + j) ≡ slice_get old (tile_start tile (corner + j))
      in_line j below =
          slice_get-append_right (take corner marked) line corner j front
          ∙ spread.each j (omega (arith, below, length-drop corner marked, as_long))
          ∙ slice_get-drop corner marked (tile_start tile j)
          ∙ shown (tile_start tile j) (where_it_starts j)
          ∙ sym (ap (slice_get old) (start_after tile corner j some so.starts))

      in_front : (k : ℕ) → k < corner → slice_get (take corner marked ++ line) k ≡ slice_get old (tile_start tile k)
      in_front k before =
          slice_get-append_left (take corner marked) line k (omega (arith, before, front))
          ∙ slice_get-take corner marked k before
          ∙ slice_get-set_other now corner k pixel (λ e. omega (arith, e, before))
          ∙ so.each k before

      pub rest_spread : IsSpread tile old (take corner marked ++ line)
      rest_spread = record {
        as_many = omega (arith, length-append (take corner marked) line, front, spread.as_many, length-drop corner marked, as_long, so.below);
        each = λ k below.
            elim (cases_lt k corner) [
              | inl before ↦ in_front k before
              | inr here ↦ let at : corner + (k - corner) ≡ k = omega (arith, here) in subst (λ n. slice_get (take corner marked ++ line) n ≡ slice_get old (tile_start tile n)) at (in_line (k - corner) (omega (arith, at, below)))
            ];
      }

    -- the same of the cells that a function leaves: those before the corner, the line, and none after it
    pub end_spread : (line : List T) → IsSpread tile (take (length (set now corner pixel) - corner) (drop corner (set now corner pixel))) line
        → IsSpread tile old (take corner (set now corner pixel) ++ (line ++ drop (length (set now corner pixel) - corner) (drop corner (set now corner pixel))))
    end_spread line spread =
        let rest : List T = drop corner (set now corner pixel) in
        let count : length (set now corner pixel) - corner ≡ length rest = sym (length-drop corner (set now corner pixel)) in
        let all : take (length (set now corner pixel) - corner) rest ≡ rest = ap (λ n. take n rest) count ∙ take-length rest in
        let none : line ++ drop (length (set now corner pixel) - corner) rest ≡ line = ap (λ n. line ++ drop n rest) count ∙ ap (λ xs. line ++ xs) (drop-length rest) ∙ append-nil line in
        subst (λ xs. IsSpread tile old (take corner (set now corner pixel) ++ xs)) (sym none) (rest_spread line (subst (λ xs. IsSpread tile xs line) all spread))
