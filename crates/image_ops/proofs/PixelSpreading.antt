-- A row whose pixels of several cells become the first ones of their tiles, from left to right.
use Rattle.std.proofs.Common.{◌≡◌, ℕ, ◌+◌, ◌-◌, ◌*◌, ◌<◌, ◌≤◌, ◌⊎◌, inl, inr, List, length, set, Some, get_or, refl, sym, ap, subst, ◌∙◌, arith}
use Rattle.std.specs.List.{slice_get}
use Rattle.std.proofs.lemmas.Bool.{cases_lt}
use Rattle.std.proofs.lemmas.List.{length-set}
use Rattle.std.proofs.lemmas.Option.{slice_get-get_or}
use Rattle.image_model.proofs.Cells.{slice_get-set_other}
use Rattle.image_writes.specs.Mosaic.{shown_column, IsSpread, IsSpreadBy}
use Rattle.image_writes.proofs.CellByCell.{one_set}
use Rattle.image_writes.proofs.Corners.{IsReached, none_reached, later_reached, next_reached}
use Rattle.image_writes.proofs.Parts.{of_one_cell, shows_itself, shows_before}

-- cells that are pixels themselves
pub spread_cells : {T : Type 0} (size tile : ℕ) (old new : List T) → size ≡ 1 → IsSpread tile old new → IsSpreadBy size tile old new
spread_cells size tile old new one so = record { as_many = so.as_many; each = λ x below. so.each x below ∙ ap (slice_get old) (sym (ap (λ n. shown_column n tile x) one ∙ of_one_cell tile x)) }

-- the cells before number x are spread, and those from it on are as before; the tile begins with this pixel
pub record SpreadByUpto {T : Type 0} (size tile : ℕ) (old now : List T) (corner x : ℕ) : Type 0 where
  pub as_many : length now ≡ length old
  pub each : (k : ℕ) → k < x → slice_get now k ≡ slice_get old (shown_column size tile k)
  pub others : (k : ℕ) → x ≤ k → slice_get now k ≡ slice_get old k
  pub reached : IsReached size tile corner x

-- the tiles before a cell are spread: that is all, or another tile begins there
pub record TilesSpread {T : Type 0} (size tile : ℕ) (old now : List T) (corner : ℕ) : Type 0 where
  pub as_many : length now ≡ length old
  pub going : corner < length old → SpreadByUpto size tile old now corner corner
  pub done : length old ≤ corner → IsSpreadBy size tile old now

module _ {T : Type 0} (size tile : ℕ) (some : 0 < size) (wide : 0 < tile) (old : List T) where
  -- none yet
  pub no_pixel : SpreadByUpto size tile old old 0 0
  no_pixel = record {
    as_many = refl;
    each = λ k below. absurd (omega (arith, below));
    others = λ k above. refl;
    reached = none_reached size tile;
  }

  -- all
  pub all_pixels : (now : List T) (corner x : ℕ) → x ≡ length old → SpreadByUpto size tile old now corner x → IsSpreadBy size tile old now
  all_pixels now corner x all so = record { as_many = so.as_many; each = λ k below. so.each k (omega (arith, below, all)) }

  pub no_tile : TilesSpread size tile old old 0
  no_tile = record { as_many = refl; going = λ _. no_pixel; done = λ none. record { as_many = refl; each = λ k below. absurd (omega (arith, below, none)) } }

  module _ (now : List T) (corner : ℕ) (so : SpreadByUpto size tile old now corner corner) where
    -- the first pixel of a tile stays
    pub first_pixel : size ≤ tile * size → SpreadByUpto size tile old now corner (corner + size)
    first_pixel room = record {
      as_many = so.as_many;
      each = λ k upto.
          elim (cases_lt k corner) [
            | inl before ↦ so.each k before
            | inr here ↦ so.others k here ∙ ap (slice_get old) (sym (shows_itself size tile so.reached.pixel k some so.reached.starts (omega (arith, so.reached.at, here)) (omega (arith, so.reached.at, upto))))
          ];
      others = λ k above. so.others k (omega (arith, above));
      reached = later_reached size tile corner corner so.reached (corner + size) (omega arith) (omega (arith, room));
    }

  module _ (now : List T) (corner x : ℕ) (so : SpreadByUpto size tile old now corner x) where
    -- the next tile begins where the one before it ends
    next_tile : x ≡ corner + tile * size → SpreadByUpto size tile old now x x
    next_tile ends = record {
      as_many = so.as_many;
      each = so.each;
      others = so.others;
      reached = next_reached size tile corner x so.reached wide ends;
    }

    -- a cell of the first pixel of a tile stays
    stays : (k : ℕ) → k < x + 1 → shown_column size tile x ≡ x → slice_get now k ≡ slice_get old (shown_column size tile k)
    stays k upto own =
        elim (cases_lt k x) [
          | inl before ↦ so.each k before
          | inr last ↦ let this : k ≡ x = omega (arith, upto, last) in ap (slice_get now) this ∙ so.others x (omega arith) ∙ ap (slice_get old) (sym own ∙ ap (shown_column size tile) (sym this))
        ]

    pub first_pixel_cell : x < corner + size → size ≤ tile * size → SpreadByUpto size tile old now corner (x + 1)
    first_pixel_cell below room = record {
      as_many = so.as_many;
      each = λ k upto. stays k upto (shows_itself size tile so.reached.pixel x some so.reached.starts (omega (arith, so.reached.at, so.reached.from)) (omega (arith, so.reached.at, below)));
      others = λ k above. so.others k (omega (arith, above));
      reached = later_reached size tile corner x so.reached (x + 1) (omega arith) (omega (arith, below, room));
    }

    -- so does the first cell of the next tile
    pub next_tile_cell : x ≡ corner + tile * size → size ≤ tile * size → SpreadByUpto size tile old now x (x + 1)
    next_tile_cell ends room =
        let next = next_tile ends in
        record {
          as_many = so.as_many;
          each = λ k upto. stays k upto (shows_itself size tile next.reached.pixel x some next.reached.starts (omega (arith, next.reached.at)) (omega (arith, next.reached.at, some)));
          others = λ k above. so.others k (omega (arith, above));
          reached = later_reached size tile x x next.reached (x + 1) (omega arith) (omega (arith, some, room));
        }

    -- another pixel gets the cells of the one before it
    pub other_pixel : (value : T) → corner + size ≤ x → x < corner + tile * size → x < length old → value ≡ get_or now (x - size) value → SpreadByUpto size tile old (set now x value) corner (x + 1)
    other_pixel value after below here is = record {
      as_many = length-set now x value ∙ so.as_many;
      each =
          one_set (λ k p. p ≡ slice_get old (shown_column size tile k)) now x value (omega (arith, here, so.as_many)) so.each
          (ap Some is
          ∙ sym (slice_get-get_or now (x - size) value (omega (arith, here, so.as_many)))
          ∙ so.each (x - size) (omega (arith, some, after))
          ∙ ap (slice_get old) (shows_before size tile so.reached.pixel x some so.reached.starts (omega (arith, so.reached.at, so.reached.from)) (omega (arith, so.reached.at, after)) (omega (arith, so.reached.at, below))));
      others = λ k above. slice_get-set_other now x k value (λ e. omega (arith, e, above)) ∙ so.others k (omega (arith, above));
      reached = later_reached size tile corner x so.reached (x + 1) (omega arith) (omega (arith, below));
    }

  -- a whole tile, or the last one
  pub one_tile_of_pixels : (now : List T) (corner x len : ℕ) → SpreadByUpto size tile old now corner (corner + x) → len ≤ x → (len ≡ tile * size) ⊎ (length old ≤ corner + len) → TilesSpread size tile old now (corner + len)
  one_tile_of_pixels now corner x len so past ends = record {
    as_many = so.as_many;
    going = λ more. elim ends [
      | inl whole ↦
          let same : corner + x ≡ corner + len = omega (arith, whole, past, so.reached.within) in
          subst (λ k. SpreadByUpto size tile old now k k) same (next_tile now corner (corner + x) so (omega (arith, same, whole)))
      | inr end ↦ absurd (omega (arith, more, end))
    ];
    done = λ all. record { as_many = so.as_many; each = λ k below. so.each k (omega (arith, below, all, past)) };
  }
