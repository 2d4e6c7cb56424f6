-- Tiles whose first pixels get cells, such as the means of their pixels, from left to right and row by row.
use Rattle.std.proofs.Common.{◌≡◌, ℕ, ◌+◌, ◌-◌, ◌*◌, ◌/◌, ◌%◌, ◌<◌, ◌≤◌, ◌⊎◌, inl, inr, min, List, length, take, drop, length-take, length-drop, set, Option, Some, refl, sym, ap, ◌∙◌, subst, arith}
use Rattle.std.specs.List.{slice_get}
use Rattle.std.proofs.lemmas.Bool.{cases_lt}
use Rattle.std.proofs.lemmas.List.{length-set}
use Rattle.std.proofs.lemmas.Nat.{mod_below, le-div, div_below}
use Rattle.std.proofs.Math.Nat.{add-mul, mul_comm, mul-le-mul_right}
use Rattle.image_model.specs.Layout.{Reaches}
use Rattle.image_model.specs.Grid.{Grid, grid, grid_of}
use Rattle.image_model.specs.Rows.{row_count}
use Rattle.image_model.specs.Tiles.{tile_count, tile_start}
use Rattle.image_model.proofs.Cells.{slice_get-take, slice_get-drop, slice_get-set_same, slice_get-set_other}
use Rattle.image_model.proofs.Grids.{same_grids, pixel_at}
use Rattle.image_model.proofs.Rows.{row_count-wide, some_column, row_reached}
use Rattle.image_model.proofs.Tiles.{tile_begins, tile_counted}
use Rattle.image_shape.specs.Shape.{shaped, shaped_grid}
use Rattle.image_shape.specs.declared.shape.Shape.{Shape}
use Rattle.image_writes.specs.Mosaic.{mosaic_by, shown_column}
use Rattle.image_means.specs.Means.{sum_upto, mean_of, tile_columns, sample_cells, sample_start, cell_number, sample_in, sample_at, sample_mean, mean_cell, sample_mosaic_by, row_mean, row_cell, PutsCells, BeginsWith}
use Rattle.image_shape.specs.declared.samples.SampleBytes.{SampleBytes}
use Rattle.image_means.proofs.Samples.{whole_pixels, second_within, sum_whole, starts_here, start_whole, start_within, sample_same}
use Rattle.image_writes.proofs.Corners.{start_of, start_starts, IsReached, none_reached, later_reached, next_reached}
use Rattle.image_means.proofs.Rounding.{sum_same, sum_within, mean_same, some_pixels, divided_within}
use Rattle.image_writes.proofs.Parts.{shown_before, shows_itself}
use Rattle.image_writes.proofs.RowsWritten.{RowsDone, all_right}

-- ---- a line of a tile

-- it has so many cells
pub line_length : {T : Type 0} (cells : List T) (start len : ℕ) → start + len ≤ length cells → length (take (start + len - start) (drop start cells)) ≡ len
line_length cells start len inside = omega (arith, inside, length-take (start + len - start) (drop start cells), length-drop start cells)

-- the sum of a line's pixels, which are a part of the cells
pub line_sum : {T : Type 0} (bytes : SampleBytes) (number : T → ℕ) (cells : List T) (size from line stride start len : ℕ) → 0 < size → size % sample_cells bytes ≡ 0 → len % sample_cells bytes ≡ 0
    → start ≡ from + line * stride → start + len ≤ length cells
    → sum_upto (tile_count size (length (take (start + len - start) (drop start cells)))) (λ i. sample_in bytes number (take (start + len - start) (drop start cells)) (i * size))
    ≡ sum_upto (tile_count size len) (λ i. sample_in bytes number cells (from + (line * stride + i * size)))
line_sum bytes number cells size from line stride start len some pixels whole at inside =
    let part = take (start + len - start) (drop start cells) in
    ap (λ n. sum_upto (tile_count size n) (λ i. sample_in bytes number part (i * size))) (line_length cells start len inside)
    ∙ sum_same (tile_count size len) _ _ (λ i below.
    let within : i * size < len = tile_begins size len i some below in
    let there : (k : ℕ) → start + (i * size + k) ≡ from + (line * stride + i * size) + k = λ k. omega (arith, at) in
    let cell : (k : ℕ) → i * size + k < len → slice_get part (i * size + k) ≡ slice_get cells (from + (line * stride + i * size) + k) =
    λ k inner. slice_get-take (start + len - start) (drop start cells) (i * size + k) (omega (arith, inner)) ∙ slice_get-drop start cells (i * size + k) ∙ ap (slice_get cells) (there k) in
    let first : slice_get part (i * size) ≡ slice_get cells (from + (line * stride + i * size)) =
    slice_get-take (start + len - start) (drop start cells) (i * size) (omega (arith, within)) ∙ slice_get-drop start cells (i * size) ∙ ap (slice_get cells) (let e : start + i * size ≡ from + (line * stride + i * size) = omega (arith, at) in e) in
    sample_same bytes number _ _ _ _ first (λ two. cell 1 (second_within bytes (i * size) len two (whole_pixels bytes i size pixels) whole within)))

-- the sum of the lines so far with that of one line more
pub line_added : {T : Type 0} (cells : List T) (size len start line lines greatest before more : ℕ) → 0 < lines → line < lines → start + len ≤ length cells
    → before ≤ line * (tile_count size len * greatest) → more ≤ tile_count size (length (take (start + len - start) (drop start cells))) * greatest
    → (before + more ≤ (line + 1) * (tile_count size len * greatest)) × (before + more ≤ tile_count size len * lines * greatest)
line_added cells size len start line lines greatest before more some below inside so here =
    sum_within lines some line (tile_count size len) greatest before more below so (subst (λ n. more ≤ tile_count size n * greatest) (line_length cells start len inside) here)

-- what is divided of it is no greater than the greatest number
pub line_divided : {T : Type 0} (cells : List T) (size len start line lines greatest mean sum more columns : ℕ) → 0 < size → 0 < len → 0 < lines → line < lines → start + len ≤ length cells → columns ≡ tile_count size len
    → mean * (columns * lines) + sum ≤ line * (tile_count size len * greatest) → more ≤ tile_count size (length (take (start + len - start) (drop start cells))) * greatest → mean + (sum + more) / (columns * lines) ≤ greatest
line_divided cells size len start line lines greatest mean sum more columns some wide high below inside here so line_bound =
    let count : ℕ = columns * lines in
    let many : 0 < count = some_pixels lines high columns (omega (arith, here, tile_counted size len 0 some (omega (arith, wide)))) in
    let all = line_added cells size len start line lines greatest (mean * count + sum) more high below inside so line_bound in
    divided_within (sum + more) count many mean greatest (mean * count + (sum + more)) refl (subst (λ n. mean * count + (sum + more) ≤ n * lines * greatest) (sym here) (omega (arith, all.1)))

-- ---- in one row

-- the first pixels of tiles before column x have their cells, and all other cells are as before; the tile of that column begins with this pixel
pub record PutUpto {T : Type 0} (what : ℕ → T) (size tile start : ℕ) (old now : List T) (corner x : ℕ) : Type 0 where
  pub as_many : length now ≡ length old
  pub each : (u : ℕ) → u < x → shown_column size tile u ≡ u → slice_get now (start + u) ≡ Some (what u)
  pub others : (k : ℕ) → (k < start) ⊎ (start + x ≤ k) → slice_get now k ≡ slice_get old k
  pub reached : IsReached size tile corner x

module _ {T : Type 0} (what : ℕ → T) (size tile start : ℕ) (some : 0 < size) (wide : 0 < tile) (old : List T) where
  -- none yet
  pub none_put : PutUpto what size tile start old old 0 0
  none_put = record {
    as_many = refl;
    each = λ u below own. absurd (omega (arith, below));
    others = λ k beside. refl;
    reached = none_reached size tile;
  }

  module _ (now : List T) (corner x : ℕ) (so : PutUpto what size tile start old now corner x) where
    -- all
    pub all_put : (width : ℕ) → x ≡ width → PutsCells what size tile start width old now
    all_put width all = record {
      as_many = so.as_many;
      each = λ u below own. so.each u (omega (arith, below, all)) own;
      others = λ k beside. elim beside [ inl before ↦ so.others k (inl before) | inr after ↦ so.others k (inr (omega (arith, after, all))) ];
    }

    -- the next tile begins where the one before it ends
    pub next_put : x ≡ corner + tile * size → PutUpto what size tile start old now x x
    next_put ends = record {
      as_many = so.as_many;
      each = so.each;
      others = so.others;
      reached = next_reached size tile corner x so.reached wide ends;
    }

    -- a later pixel of a tile stays
    pub later_stays : corner + size ≤ x → x < corner + tile * size → PutUpto what size tile start old now corner (x + 1)
    later_stays after below =
        let q : ℕ = x / size in
        let here : tile_start tile q ≡ so.reached.pixel = start_of tile so.reached.pixel wide so.reached.starts q (le-div so.reached.pixel x size some (omega (arith, so.reached.at, so.reached.from))) (div_below x size (so.reached.pixel + tile) some (omega (arith, so.reached.at, below, add-mul so.reached.pixel tile size))) in
        let shown : shown_column size tile x ≡ so.reached.pixel * size + x % size = ap (λ n. n * size + x % size) here in
        record {
          as_many = so.as_many;
          each = λ u upto own.
              elim (cases_lt u x) [
                | inl before ↦ so.each u before own
                | inr last ↦
                    let this : u ≡ x = omega (arith, upto, last) in
                    let mine : shown_column size tile x ≡ x = subst (λ n. shown_column size tile n ≡ n) this own in
                    absurd (omega (arith, mine, shown, mod_below x size some, so.reached.at, after))
              ];
          others = λ k beside. elim beside [ inl before ↦ so.others k (inl before) | inr behind ↦ so.others k (inr (omega (arith, behind))) ];
          reached = later_reached size tile corner x so.reached (x + 1) (omega arith) (omega (arith, below));
        }

    -- a cell of the first pixel of a tile is written
    pub cell_put : (value : T) → x < corner + size → size ≤ tile * size → start + x < length now → value ≡ what x → PutUpto what size tile start old (set now (start + x) value) corner (x + 1)
    cell_put value below room here is = record {
      as_many = length-set now (start + x) value ∙ so.as_many;
      each = λ u upto own.
          elim (cases_lt u x) [
            | inl before ↦ slice_get-set_other now (start + x) (start + u) value (λ e. omega (arith, e, before)) ∙ so.each u before own
            | inr last ↦
                let this : u ≡ x = omega (arith, upto, last) in
                rw this (slice_get-set_same now (start + x) value here ∙ ap Some is)
          ];
      others = λ k beside. elim beside [
        | inl before ↦ slice_get-set_other now (start + x) k value (λ e. omega (arith, e, before)) ∙ so.others k (inl before)
        | inr behind ↦ slice_get-set_other now (start + x) k value (λ e. omega (arith, e, behind)) ∙ so.others k (inr (omega (arith, behind)))
      ];
      reached = later_reached size tile corner x so.reached (x + 1) (omega arith) (omega (arith, below, room));
    }

    -- a mean of cells that are as before
    pub same_mean : (bytes : SampleBytes) (number : T → ℕ) (lines stride width : ℕ) → row_mean bytes number size tile lines stride start width now x ≡ row_mean bytes number size tile lines stride start width old x
    same_mean bytes number lines stride width =
        mean_same (tile_columns size tile width x) lines _ _ (λ i j column line.
        sample_same bytes number _ _ _ _ (so.others (start + x + (j * stride + i * size)) (inr (omega arith))) (λ two. so.others (start + x + (j * stride + i * size) + 1) (inr (omega arith))))

    -- the mean of a sample that begins here
    pub mean_begun : (bytes : SampleBytes) (number : T → ℕ) (lines stride width mean len : ℕ) → x % sample_cells bytes ≡ 0 → len ≡ min (tile * size) (width - x)
        → mean ≡ mean_of (tile_count size len) lines (λ i j. sample_in bytes number now (start + x + (j * stride + i * size))) → mean ≡ row_mean bytes number size tile lines stride start width old (sample_start bytes x)
    mean_begun bytes number lines stride width mean len whole cut is =
        is
        ∙ ap (λ n. mean_of (tile_count size n) lines (λ i j. sample_in bytes number now (start + x + (j * stride + i * size)))) cut
        ∙ same_mean bytes number lines stride width
        ∙ ap (row_mean bytes number size tile lines stride start width old) (sym (starts_here bytes x whole))

    -- the corner lies where a sample begins
    pub corner_whole : (bytes : SampleBytes) → size % sample_cells bytes ≡ 0 → corner % sample_cells bytes ≡ 0
    corner_whole bytes pixels = ap (λ n. n % sample_cells bytes) so.reached.at ∙ whole_pixels bytes so.reached.pixel size pixels

    -- where the next tile begins, so does a sample
    pub tile_whole : (bytes : SampleBytes) → size % sample_cells bytes ≡ 0 → x ≡ corner + tile * size → x % sample_cells bytes ≡ 0
    tile_whole bytes pixels ends = ap (λ n. n % sample_cells bytes) ends ∙ sum_whole bytes corner (tile * size) (corner_whole bytes pixels) (whole_pixels bytes tile size pixels)

-- ---- row by row

-- the lines of a tile end within the cells that fit
pub lines_inside : (count width height stride y lines : ℕ) → Reaches count width height stride → y < row_count width height → lines ≤ height - y → 0 < lines → y * stride + (stride * (lines - 1) + width) ≤ count
lines_inside count width height stride y lines fits below within some =
    let wide : row_count width height ≡ height = row_count-wide width height (some_column width height y below) in
    let last : (y + (lines - 1)) * stride + width ≤ count = row_reached count width height stride (y + (lines - 1)) fits (omega (arith, wide, below, within, some)) in
    omega (arith, last, add-mul y (lines - 1) stride, mul_comm stride (lines - 1))

module _ {T : Type 0} (what : ℕ → ℕ → T) (old : List T) (s : Shape) (size tw th : ℕ) where
  -- a cell of the first pixel of a tile is what it gets
  abbrev pub IsBegun : ℕ → ℕ → Option T → Type 0
  IsBegun x y p = shown_column size tw x ≡ x → tile_start th y ≡ y → p ≡ Some (what x y)

  module _ (now : List T) (y : ℕ) (so : RowsDone IsBegun old now s y) where
    -- a row that isn't the first of its tiles
    pub row_kept : 0 < y % th → RowsDone IsBegun old now s (y + 1)
    row_kept later = record {
      as_many = so.as_many;
      each = λ x j column upto.
          elim (cases_lt j y) [
            | inl earlier ↦ so.each x j column earlier
            | inr last ↦ λ own first. let this : j ≡ y = omega (arith, upto, last) in absurd (omega (arith, subst (λ n. tile_start th n ≡ n) this first, later))
          ];
      others = λ k other. so.others k (record { no_place = λ x j column before. other.no_place x j column (omega (arith, before)) });
    }

    -- the rows from this one on are as before
    pub below_stays : (k : ℕ) → y * s.stride ≤ k → slice_get now k ≡ slice_get old k
    below_stays k below =
        so.others k (record {
          no_place = λ x j column before at.
              let next : (j + 1) * s.stride ≤ y * s.stride = mul-le-mul_right s.stride (omega (arith, before)) in
              omega (arith, add-mul j 1 s.stride, next, at, below, column, s.holds_width);
        })

    -- the first row of tiles, with its cells
    pub row_put : (new : List T) (put : ℕ → T) → ((x : ℕ) → x < s.width → put x ≡ what x y) → PutsCells put size tw (y * s.stride) s.width now new → RowsDone IsBegun old new s (y + 1)
    row_put new put same written = record {
      as_many = written.as_many ∙ so.as_many;
      each = λ x j column upto.
          elim (cases_lt j y) [
            | inl earlier ↦
                let next : (j + 1) * s.stride ≤ y * s.stride = mul-le-mul_right s.stride (omega (arith, earlier)) in
                λ own first. written.others (j * s.stride + x) (inl (omega (arith, next, add-mul j 1 s.stride, column, s.holds_width))) ∙ so.each x j column earlier own first
            | inr last ↦
                let this : y ≡ j = omega (arith, upto, last) in
                subst (λ n. IsBegun x n (slice_get new (n * s.stride + x))) this (λ own first. written.each x column own ∙ ap Some (same x column))
          ];
      others = λ k other.
          let stays : slice_get now k ≡ slice_get old k = so.others k (record { no_place = λ x j column before. other.no_place x j column (omega (arith, before)) }) in
          elim (cases_lt k (y * s.stride)) [
            | inl ahead ↦ written.others k (inl ahead) ∙ stays
            | inr behind ↦
                elim (cases_lt k (y * s.stride + s.width)) [
                  | inl here ↦ let at : y * s.stride + (k - y * s.stride) ≡ k = omega (arith, behind) in absurd (other.no_place (k - y * s.stride) y (omega (arith, here, behind)) (omega arith) at)
                  | inr after ↦ written.others k (inr after) ∙ stays
                ]
          ];
    }

  -- all rows
  pub rows_put : (new : List T) (y : ℕ) → RowsDone IsBegun old new s y → y ≡ row_count s.width s.height → BeginsWith what size tw th (shaped_grid new s) s.width s.height
  unfolding grid_of
  rows_put new y so all = record { each = λ x j column line own first. pixel_at (shaped new s) x j column line ∙ all_right IsBegun old new s y so all x j column line own first }

-- where the rows from one on are as before, a cell of a mean in the row is that of the grid
pub grid_cell : {T : Type 0} (bytes : SampleBytes) (number : T → ℕ) (sample : ℕ → T) (what : ℕ → ℕ → T) (old now : List T) (s : Shape) (size tw th y lines x : ℕ) → RowsDone (IsBegun what old s size tw th) old now s y
    → 0 < size → size % sample_cells bytes ≡ 0 → s.width % sample_cells bytes ≡ 0 → lines ≡ min th (s.height - y) → x < s.width → y < s.height
    → row_cell bytes number sample size tw lines s.stride (y * s.stride) s.width now x ≡ mean_cell bytes number sample size tw th (grid_of (shaped old s)) x y
unfolding grid_of
grid_cell {T} bytes number sample what old now s size tw th y lines x so some pixels whole count column line =
    let g : Grid T = grid_of (shaped old s) in
    let c : ℕ = sample_start bytes x in
    let within : c < s.width = omega (arith, start_within bytes x, column) in
    let same : row_mean bytes number size tw lines s.stride (y * s.stride) s.width now c ≡ sample_mean bytes number size tw th g c y =
    mean_same (tile_columns size tw s.width c) lines _ _ (λ i j inside above.
    let right : i * size < min (tw * size) (s.width - c) = tile_begins size (min (tw * size) (s.width - c)) i some inside in
    let u : ℕ = c + i * size in
    let low : y + j < s.height = omega (arith, above, count) in
    let u_in : u < s.width = omega (arith, right) in
    let cell : (n k : ℕ) → n < s.width → k ≡ (y + j) * s.stride + n → y * s.stride ≤ k → slice_get now k ≡ g.pixel n (y + j) =
    λ n k inner there below. below_stays what old s size tw th now y so k below ∙ ap (slice_get old) there ∙ sym (pixel_at (shaped old s) n (y + j) inner low) in
    let k : ℕ = y * s.stride + c + (j * s.stride + i * size) in
    sample_same bytes number _ _ _ _ (cell u k u_in (omega (arith, add-mul y j s.stride)) (omega arith)) (λ two.
    let next : u + 1 < s.width = second_within bytes u s.width two (sum_whole bytes c (i * size) (start_whole bytes x) (whole_pixels bytes i size pixels)) whole u_in in
    cell (u + 1) (k + 1) next (omega (arith, add-mul y j s.stride)) (omega arith)))
    ∙ ap (λ n. mean_of (tile_columns size tw s.width c) n (λ i j. sample_at bytes number g (c + i * size) (y + j))) count in
    ap (λ n. sample (cell_number bytes x n)) same

-- the first cell of a tile's own is itself
shown_shown : (size tile x : ℕ) → 0 < size → 0 < tile → shown_column size tile (shown_column size tile x) ≡ shown_column size tile x
shown_shown size tile x some wide =
    let pixel : ℕ = tile_start tile (x / size) in
    shows_itself size tile pixel (pixel * size + x % size) some (start_starts tile (x / size) wide) (omega arith) (omega (arith, mod_below x size some))

-- the mosaic of an image whose tiles begin with such pixels
pub mosaic_of_begun : {T : Type 0} (what : ℕ → ℕ → T) (size tw th : ℕ) (new : List T) (s : Shape) → 0 < size → 0 < tw → 0 < th → BeginsWith what size tw th (shaped_grid new s) s.width s.height
    → mosaic_by size tw th (shaped_grid new s) ≡ grid s.width s.height (λ x y. Some (what (shown_column size tw x) (tile_start th y)))
unfolding grid_of
mosaic_of_begun what size tw th new s some wide high so =
    same_grids s.width s.height _ _ (λ x y column line.
    so.each (shown_column size tw x) (tile_start th y) (omega (arith, column, shown_before size tw x)) (omega (arith, line)) (shown_shown size tw x some wide) (start_starts th y high))

-- so shows the means
pub mosaic_of_means : {T : Type 0} (bytes : SampleBytes) (number : T → ℕ) (sample : ℕ → T) (size tw th : ℕ) (old new : List T) (s : Shape) → 0 < size → 0 < tw → 0 < th
    → BeginsWith (mean_cell bytes number sample size tw th (shaped_grid old s)) size tw th (shaped_grid new s) s.width s.height → mosaic_by size tw th (shaped_grid new s) ≡ sample_mosaic_by bytes number sample size tw th (shaped_grid old s)
unfolding grid_of
mosaic_of_means bytes number sample size tw th old new s some wide high so = mosaic_of_begun (mean_cell bytes number sample size tw th (shaped_grid old s)) size tw th new s some wide high so
