-- Stretches of a row, one after the other, of which the first pixels of tiles get cells: tiles by their sums, and stretches by their tiles.
use Rattle.std.proofs.Common.{◌≡◌, ℕ, ◌+◌, ◌-◌, ◌*◌, ◌/◌, ◌%◌, ◌<◌, ◌≤◌, ◌⊎◌, inl, inr, min, List, length, take, drop, length-take, length-drop, set, Some, get_or, refl, sym, ap, ◌∙◌, arith}
use Rattle.std.specs.List.{slice_get}
use Rattle.std.specs.Option.{option_map_or}
use Rattle.std.proofs.lemmas.Bool.{cases_lt}
use Rattle.std.proofs.lemmas.List.{length-set}
use Rattle.std.proofs.lemmas.Nat.{mod_below, le-div, div_below, div-add-mod', mul-le}
use Rattle.std.proofs.lemmas.Option.{slice_get-get_or}
use Rattle.std.proofs.Math.Nat.{add-mul, mul_assoc, mul-add-div_right, mul-add-mod_self_right, mul-mod_left}
use Rattle.image_model.specs.Tiles.{tile_count, tile_start}
use Rattle.image_model.proofs.Cells.{slice_get-take, slice_get-drop, slice_get-set_same, slice_get-set_other}
use Rattle.image_model.proofs.Tiles.{tile_begins}
use Rattle.image_writes.specs.Mosaic.{shown_column}
use Rattle.image_means.specs.LineSums.{lines_sum, pixels_sum, sums_cell, AreLineSums}
use Rattle.image_means.specs.Means.{number_in, rounded_mean, sum_upto, tile_columns, row_cell, PutsCells}
use Rattle.image_shape.specs.declared.samples.SampleBytes.TheVariants.{One}
use Rattle.image_means.proofs.ColumnSums.{sum_exchanged}
use Rattle.image_means.proofs.Rounding.{sum_same}

-- ---- the longest stretch of whole tiles

pub whole_multiple : (room tile : ℕ) → 0 < tile → (room / tile * tile % tile ≡ 0) × (room < room / tile * tile + tile)
whole_multiple room tile some = (mul-mod_left (room / tile) tile, omega (arith, div-add-mod' room tile, mod_below room tile some))

-- ---- the columns of tiles

module _ (size tile : ℕ) (some : 0 < size) (wide : 0 < tile) where
  -- the first pixel of a tile: so many tiles are before it, and it has this cell
  pub own_place : (u : ℕ) → shown_column size tile u ≡ u → u ≡ u / size / tile * (tile * size) + u % size
  own_place u own =
      let p : ℕ = u / size in
      let starts : tile_start tile p ≡ p / tile * tile = omega (arith, div-add-mod' p tile) in
      sym own ∙ ap (λ n. n * size + u % size) starts ∙ ap (λ n. n + u % size) (mul_assoc (p / tile) tile size)

  -- in the first tile it is a cell of the first pixel
  pub own_first : (u n : ℕ) → shown_column size tile u ≡ u → u < n → n ≤ tile * size → u < size
  own_first u n own below one =
      let k : ℕ = u / size / tile in
      elim (cases_lt k 1) [
        | inl first ↦ let none : k ≡ 0 = omega (arith, first) in omega (arith, own_place u own, ap (λ n. n * (tile * size)) none, mod_below u size some)
        | inr later ↦ absurd (omega (arith, own_place u own, mul-le 1 (tile * size) k (tile * size) later (omega arith), below, one))
      ]

  -- so it is, counted from the start of a later tile
  pub own_later : (q u : ℕ) → shown_column size tile (q * (tile * size) + u) ≡ q * (tile * size) + u → shown_column size tile u ≡ u
  own_later q u own =
      let x : ℕ = q * (tile * size) + u in
      let p : ℕ = u / size in
      let is : x ≡ q * tile * size + u = ap (λ n. n + u) (sym (mul_assoc q tile size)) in
      let pixel : x / size ≡ q * tile + p = ap (λ n. n / size) is ∙ mul-add-div_right some (q * tile) u in
      let cell : x % size ≡ u % size = ap (λ n. n % size) is ∙ mul-add-mod_self_right (q * tile) size u in
      let starts : tile_start tile (q * tile + p) ≡ q * tile + tile_start tile p = omega (arith, mul-add-mod_self_right q tile p, div-add-mod' p tile) in
      let shown : shown_column size tile x ≡ (q * tile + tile_start tile p) * size + u % size = (λ i. tile_start tile (pixel i) * size + cell i) ∙ ap (λ n. n * size + u % size) starts in
      omega (arith, own, shown, add-mul (q * tile) (tile_start tile p) size, is)

  -- a whole tile has so many pixels, counted by any of the first pixel's cells
  pub full_columns : (len : ℕ) → tile * size < len + size → len ≤ tile * size → tile_count size len ≡ tile
  full_columns len above within =
      let least : tile ≤ (len + (size - 1)) / size = le-div tile (len + (size - 1)) size some (omega (arith, above, some)) in
      let most : (len + (size - 1)) / size < tile + 1 = div_below (len + (size - 1)) size (tile + 1) some (omega (arith, within, add-mul tile 1 size, some)) in
      omega (arith, least, most)

  -- a stretch of whole tiles cuts none of them
  whole_columns : (m n more u : ℕ) → n ≡ m * (tile * size) → n ≤ more → u < n → shown_column size tile u ≡ u → tile_columns size tile n u ≡ tile_columns size tile more u
  whole_columns m n more u is longer below own =
      let k : ℕ = u / size / tile in
      let c : ℕ = u % size in
      let at : u ≡ k * (tile * size) + c = own_place u own in
      let cell : c < size = mod_below u size some in
      let room : size ≤ tile * size = omega (arith, mul-le 1 size tile size wide (omega arith)) in
      let next : (k + 1) * (tile * size) ≤ n =
      elim (cases_lt k m) [
        | inl before ↦ omega (arith, mul-le (k + 1) (tile * size) m (tile * size) (omega (arith, before)) (omega arith), is)
        | inr after ↦ absurd (omega (arith, mul-le m (tile * size) k (tile * size) after (omega arith), is, at, below))
      ] in
      let here : tile * size ≤ n - u + c = omega (arith, next, add-mul k 1 (tile * size), at) in
      full_columns (min (tile * size) (n - u)) (omega (arith, here, cell)) (omega arith) ∙ sym (full_columns (min (tile * size) (more - u)) (omega (arith, here, cell, longer)) (omega arith))

  -- nor does one that ends with the row
  pub same_columns : (m step n more u : ℕ) → step ≡ m * (tile * size) → n ≡ min step more → u < n → shown_column size tile u ≡ u → tile_columns size tile n u ≡ tile_columns size tile more u
  same_columns m step n more u is cut below own =
      elim (cases_lt more step) [
        | inl last ↦ ap (λ k. tile_columns size tile k u) (let e : n ≡ more = omega (arith, cut, last) in e)
        | inr whole ↦ whole_columns m n more u (let e : n ≡ step = omega (arith, cut, whole) in e ∙ is) (omega (arith, cut)) below own
      ]

-- ---- cell by cell

-- so many cells from one on are these, and all others are as before
pub record FirstCells {T : Type 0} (what : ℕ → T) (start : ℕ) (old now : List T) (c : ℕ) : Type 0 where
  pub as_many : length now ≡ length old
  pub each : (u : ℕ) → u < c → slice_get now (start + u) ≡ Some (what u)
  pub others : (k : ℕ) → (k < start) ⊎ (start + c ≤ k) → slice_get now k ≡ slice_get old k

-- one cell more
one_cell_more : {T : Type 0} (what : ℕ → T) (start c : ℕ) (old now : List T) (value : T) → FirstCells what start old now c → start + c < length old → value ≡ what c → FirstCells what start old (set now (start + c) value) (c + 1)
one_cell_more what start c old now value so inside is =
    let here : start + c < length now = omega (arith, inside, so.as_many) in
    record {
      as_many = length-set now (start + c) value ∙ so.as_many;
      each = λ u below.
          elim (cases_lt u c) [
            | inl before ↦ slice_get-set_other now (start + c) (start + u) value (λ e. omega (arith, e, before)) ∙ so.each u before
            | inr at ↦
                let this : c ≡ u = omega (arith, below, at) in
                ap (λ n. slice_get (set now (start + c) value) (start + n)) (sym this) ∙ slice_get-set_same now (start + c) value here ∙ ap Some (is ∙ ap what this)
          ];
      others = λ k beside. elim beside [
        | inl before ↦ slice_get-set_other now (start + c) k value (λ e. omega (arith, e, before)) ∙ so.others k (inl before)
        | inr after ↦ slice_get-set_other now (start + c) k value (λ e. omega (arith, e, after)) ∙ so.others k (inr (omega (arith, after)))
      ];
    }

-- one mean more, of so many columns
pub one_mean_more : {T C : Type 0} (tally : C → ℕ) (sample : ℕ → T) (size tile lines : ℕ) (sums : List C) (start at columns mean : ℕ) (old now : List T) (value : T) → tile_columns size tile (length sums) at ≡ columns → mean ≡ rounded_mean (pixels_sum tally sums size columns at) (columns * lines) → value ≡ sample mean → start + at < length old
    → FirstCells (sums_cell tally sample size tile lines sums) start old now at → FirstCells (sums_cell tally sample size tile lines sums) start old (set now (start + at) value) (at + 1)
one_mean_more tally sample size tile lines sums start at columns mean old now value many is put inside so =
    one_cell_more (sums_cell tally sample size tile lines sums) start at old now value so inside (put ∙ ap sample (is ∙ ap (λ n. rounded_mean (pixels_sum tally sums size n at) (n * lines)) (sym many)))

-- the cells of the first pixel of a row with one tile
pub first_pixel : {T : Type 0} (what : ℕ → T) (size tile start width c : ℕ) (old now : List T) → 0 < size → 0 < tile → width ≤ tile * size → c ≡ min size width → FirstCells what start old now c → PutsCells what size tile start width old now
first_pixel what size tile start width c old now some wide one is so = record {
  as_many = so.as_many;
  each = λ x below own. so.each x (omega (arith, own_first size tile some wide x width own below one, below, is));
  others = λ k beside. elim beside [ inl before ↦ so.others k (inl before) | inr after ↦ so.others k (inr (omega (arith, after, is))) ];
}

-- ---- stretch by stretch

-- the first pixels of tiles before column x have their cells, and all other cells are as before; a tile begins with column x
pub record PutBefore {T : Type 0} (what : ℕ → T) (size tile start width : ℕ) (old now : List T) (x : ℕ) : Type 0 where
  pub as_many : length now ≡ length old
  pub each : (u : ℕ) → u < x → shown_column size tile u ≡ u → slice_get now (start + u) ≡ Some (what u)
  pub others : (k : ℕ) → (k < start) ⊎ (start + x ≤ k) → slice_get now k ≡ slice_get old k
  pub tiles : ℕ
  pub at : x < width → x ≡ tiles * (tile * size)
  pub within : x ≤ width

module _ {T : Type 0} (what : ℕ → T) (size tile start width : ℕ) (some : 0 < size) (wide : 0 < tile) (old : List T) where
  -- none yet
  pub none_before : PutBefore what size tile start width old old 0
  none_before = record {
    as_many = refl;
    each = λ u below own. absurd (omega (arith, below));
    others = λ k beside. refl;
    tiles = 0;
    at = λ more. omega arith;
    within = omega arith;
  }

  module _ (now : List T) (x : ℕ) (so : PutBefore what size tile start width old now x) where
    -- all
    pub all_before : width ≤ x → PutsCells what size tile start width old now
    all_before all = record {
      as_many = so.as_many;
      each = λ u below own. so.each u (omega (arith, below, all)) own;
      others = λ k beside. elim beside [ inl before ↦ so.others k (inl before) | inr after ↦ so.others k (inr (omega (arith, after, so.within, all))) ];
    }

    -- one stretch more, of so many tiles, or up to the row's end
    pub put_next : (part : ℕ → T) (m step len : ℕ) (new : List T) → x < width → step ≡ m * (tile * size) → len ≡ min step (width - x) → PutsCells part size tile (start + x) len now new
        → ((u : ℕ) → u < len → shown_column size tile u ≡ u → part u ≡ what (x + u)) → PutBefore what size tile start width old new (x + len)
    put_next part m step len new more is cut put same = record {
      as_many = put.as_many ∙ so.as_many;
      each = λ v below own.
          elim (cases_lt v x) [
            | inl before ↦ put.others (start + v) (inl (omega (arith, before))) ∙ so.each v before own
            | inr after ↦
                let u : ℕ = v - x in
                let here : x + u ≡ v = omega (arith, after) in
                let mine : shown_column size tile u ≡ u = own_later size tile some wide so.tiles u (
                let e : so.tiles * (tile * size) + u ≡ v = omega (arith, here, so.at more) in ap (shown_column size tile) e ∙ own ∙ sym e
                ) in
                let inside : u < len = omega (arith, here, below) in
                let place : start + x + u ≡ start + v = omega (arith, here) in
                ap (slice_get new) (sym place) ∙ put.each u inside mine ∙ ap Some (same u inside mine ∙ ap what here)
          ];
      others = λ k beside. elim beside [
        | inl before ↦ put.others k (inl (omega (arith, before))) ∙ so.others k (inl before)
        | inr after ↦ put.others k (inr (omega (arith, after))) ∙ so.others k (inr (omega (arith, after)))
      ];
      tiles = so.tiles + m;
      at = λ rest. omega (arith, so.at more, cut, is, rest, add-mul so.tiles m (tile * size));
      within = omega (arith, cut, more);
    }

-- what is the same, is put all the same
pub puts_same : {T : Type 0} (what other : ℕ → T) (size tile start width : ℕ) (old new : List T) → ((u : ℕ) → u < width → what u ≡ other u) → PutsCells what size tile start width old new → PutsCells other size tile start width old new
puts_same what other size tile start width old new same put = record {
  as_many = put.as_many;
  each = λ u below own. put.each u below own ∙ ap Some (same u below);
  others = put.others;
}

-- ---- by the sums

-- the sum of a column is one of the sums
pub column_sum : {C : Type 0} (tally : C → ℕ) (sums : List C) (k : ℕ) (it : C) (sum : ℕ) → k < length sums → it ≡ get_or sums k it → sum ≡ tally it → number_in tally sums k ≡ sum
column_sum tally sums k it sum below is tells = ap (λ o. option_map_or tally o 0) (slice_get-get_or sums k it below ∙ ap Some (sym is)) ∙ sym tells

-- the numbers of a part of the sums
pub part_number : {C : Type 0} (tally : C → ℕ) (sums : List C) (at n k : ℕ) → k < n → number_in tally (take n (drop at sums)) k ≡ number_in tally sums (at + k)
part_number tally sums at n k below = ap (λ p. option_map_or tally p 0) (slice_get-take n (drop at sums) k below ∙ slice_get-drop at sums k)

-- the bound of a part of the sums
pub part_within : {C : Type 0} (tally : C → ℕ) (sums : List C) (at n bound : ℕ) → at + n ≤ length sums → ((k : ℕ) → k < length sums → number_in tally sums k ≤ bound)
    → (k : ℕ) → k < length (take n (drop at sums)) → number_in tally (take n (drop at sums)) k ≤ bound
part_within tally sums at n bound inside so k below =
    let here : k < n = omega (arith, below, length-take n (drop at sums)) in
    omega (arith, part_number tally sums at n k here, so (at + k) (omega (arith, here, inside)))

-- the mean of a tile of a stretch by the tile's own sums
pub part_cell : {T C : Type 0} (tally : C → ℕ) (sample : ℕ → T) (size tile lines : ℕ) → 0 < size → 0 < tile → (sums : List C) (at n : ℕ) → n ≡ min (tile * size) (length sums - at) → (u : ℕ) → u < n → shown_column size tile u ≡ u
    → sums_cell tally sample size tile lines (take n (drop at sums)) u ≡ sums_cell tally sample size tile lines sums (at + u)
part_cell tally sample size tile lines some wide sums at n cut u below own =
    let part = take n (drop at sums) in
    let long : length part ≡ n = omega (arith, cut, length-take n (drop at sums), length-drop at sums) in
    let rest : length sums - at - u ≡ length sums - (at + u) = omega arith in
    let columns : ℕ = tile_columns size tile (length sums) (at + u) in
    let one : tile * size ≡ 1 * (tile * size) = omega arith in
    let many : tile_columns size tile (length part) u ≡ columns =
    ap (λ k. tile_columns size tile k u) long ∙ same_columns size tile some wide 1 (tile * size) n (length sums - at) u one cut below own ∙ ap (λ k. tile_count size (min (tile * size) k)) rest in
    let numbers : pixels_sum tally part size columns u ≡ pixels_sum tally sums size columns (at + u) =
    sum_same columns _ _ (λ i inside.
    let back : i < tile_count size (min (tile * size) (n - u)) = omega (arith, inside, many, long, ap (λ k. tile_columns size tile k u) long) in
    let reached : i * size < min (tile * size) (n - u) = tile_begins size (min (tile * size) (n - u)) i some back in
    let place : at + (u + i * size) ≡ at + u + i * size = omega arith in
    part_number tally sums at n (u + i * size) (omega (arith, reached, below)) ∙ ap (number_in tally sums) place) in
    ap (λ k. sample (rounded_mean (pixels_sum tally part size k u) (k * lines))) many ∙ ap (λ k. sample (rounded_mean k (columns * lines))) numbers

-- the mean of a tile by the sums of its lines
pub sums_are : {T C : Type 0} (number : T → ℕ) (tally : C → ℕ) (sample : ℕ → T) (greatest size tile lines stride start width : ℕ) → 0 < size → (cells : List T) (sums : List C) → AreLineSums number tally greatest cells start stride lines sums
    → length sums ≡ width → (x : ℕ) → x < width → sums_cell tally sample size tile lines sums x ≡ row_cell One number sample size tile lines stride start width cells x
sums_are number tally sample greatest size tile lines stride start width some cells sums so long x below =
    let columns : ℕ = tile_columns size tile width x in
    let many : tile_columns size tile (length sums) x ≡ columns = ap (λ k. tile_columns size tile k x) long in
    let by_lines : pixels_sum tally sums size columns x ≡ sum_upto columns (λ i. lines_sum number cells start stride lines (x + i * size)) =
    sum_same columns _ _ (λ i inside. so.each (x + i * size) (omega (arith, tile_begins size (min (tile * size) (width - x)) i some inside, below, long))) in
    let exchanged = sum_exchanged columns lines (λ i j. number_in number cells (start + (x + i * size) + j * stride)) in
    let placed : sum_upto lines (λ j. sum_upto columns (λ i. number_in number cells (start + (x + i * size) + j * stride))) ≡ sum_upto lines (λ j. sum_upto columns (λ i. number_in number cells (start + x + (j * stride + i * size)))) =
    sum_same lines _ _ (λ j line. sum_same columns _ _ (λ i inside. ap (number_in number cells) (let e : start + (x + i * size) + j * stride ≡ start + x + (j * stride + i * size) = omega arith in e))) in
    ap (λ k. sample (rounded_mean (pixels_sum tally sums size k x) (k * lines))) many ∙ ap (λ k. sample (rounded_mean k (columns * lines))) (by_lines ∙ exchanged ∙ placed)

-- the mean of a tile of a stretch, whose cells are as before
pub stretch_cell : {T : Type 0} (number : T → ℕ) (sample : ℕ → T) (size tile lines stride start width : ℕ) → 0 < size → 0 < tile → (old now : List T) (x m step len : ℕ)
    → ((k : ℕ) → (k < start) ⊎ (start + x ≤ k) → slice_get now k ≡ slice_get old k) → step ≡ m * (tile * size) → len ≡ min step (width - x) → (u : ℕ) → u < len → shown_column size tile u ≡ u
    → row_cell One number sample size tile lines stride (start + x) len now u ≡ row_cell One number sample size tile lines stride start width old (x + u)
stretch_cell number sample size tile lines stride start width some wide old now x m step len same is cut u below own =
    let rest : width - x - u ≡ width - (x + u) = omega arith in
    let columns : ℕ = tile_columns size tile width (x + u) in
    let many : tile_columns size tile len u ≡ columns = same_columns size tile some wide m step len (width - x) u is cut below own ∙ ap (λ k. tile_count size (min (tile * size) k)) rest in
    let numbers : sum_upto lines (λ j. sum_upto columns (λ i. number_in number now (start + x + u + (j * stride + i * size)))) ≡ sum_upto lines (λ j. sum_upto columns (λ i. number_in number old (start + (x + u) + (j * stride + i * size)))) =
    sum_same lines _ _ (λ j line. sum_same columns _ _ (λ i inside.
    let place : start + x + u + (j * stride + i * size) ≡ start + (x + u) + (j * stride + i * size) = omega arith in
    ap (λ p. option_map_or number p 0) (same (start + x + u + (j * stride + i * size)) (inr (omega arith)) ∙ ap (slice_get old) place))) in
    ap (λ k. sample (rounded_mean (sum_upto lines (λ j. sum_upto k (λ i. number_in number now (start + x + u + (j * stride + i * size))))) (k * lines))) many ∙ ap (λ k. sample (rounded_mean k (columns * lines))) numbers
