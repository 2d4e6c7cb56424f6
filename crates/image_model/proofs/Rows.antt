-- Rows and joined rows as stretches of the cells.
use Rattle.std.proofs.Common.{◌==◌, subst, ◌≡◌, ℕ, zero, suc, ◌+◌, ◌*◌, ◌<◌, ◌≤◌, List, [], ◌∷◌, ◌++◌, length, take, drop, map, refl, sym, ap, ◌∙◌, arith, add-one, add-zero, length-append, length-take, length-drop, Some, Option, rules}
use Rattle.std.specs.List.{slice_get, filter_map, flat_map, range_with_len}
use Rattle.std.proofs.lemmas.List.{drop_more, drop_all, append-nil}
use Rattle.std.proofs.lemmas.List.Concat.{flat_map-append}
use Rattle.std.proofs.lemmas.List.FromFn.{map-range_with_len_more, length-map-range_with_len, get_or-map-range_with_len}
use Rattle.std.proofs.Math.Seq.{take-add, take-nil}
use Rattle.std.proofs.lemmas.Option.{slice_get_cases, slice_get-get_or}
use Rattle.std.proofs.lemmas.Bool.{cond-false, cond_both, ne_eqb}
use Rattle.image_model.specs.Layout.{Layout, layout, Reaches, Fits, pixel}
use Rattle.image_model.specs.Grid.{grid_of}
use Rattle.image_model.specs.Rows.{row, rows, row_count, joined_rows, grid_row, grid_rows, grid_joined_rows}
use Rattle.image_model.proofs.Cells.{slice_get-take, slice_get-drop}
use Rattle.image_model.proofs.Grids.{pixel_at}

-- ---- one row

-- a stretch of the cells, tabulated: past the last cell there is nothing
tabulated : {T : Type 0} (cells : List T) (b a n : ℕ) → filter_map (λ x. slice_get cells (b + x)) (range_with_len a n) ≡ take n (drop (b + a) cells)
tabulated cells b a zero = refl
tabulated cells b a (suc n) = grind (arith, drop_more, drop_all, take-nil, slice_get_cases, tabulated cells b (a + 1) n)

-- a row is a stretch of the cells, shorter where they end before it does
pub row_stretch : {T : Type 0} (l : Layout T) (y : ℕ) → row l y ≡ take l.width (drop (y * l.stride) l.cells)
row_stretch l y = tabulated l.cells (y * l.stride) 0 l.width ∙ ap (λ k. take l.width (drop k l.cells)) (add-zero (y * l.stride))

-- place x of a row is its pixel
pub row_pixel : {T : Type 0} (l : Layout T) (x y : ℕ) → x < l.width → slice_get (row l y) x ≡ pixel l x y
row_pixel l x y column = ap (λ cells. slice_get cells x) (row_stretch l y) ∙ slice_get-take l.width (drop (y * l.stride) l.cells) x column ∙ slice_get-drop (y * l.stride) l.cells x

-- a row that the cells have is a stretch of them
pub row_is : {T : Type 0} (l : Layout T) (y : ℕ) → y * l.stride + l.width ≤ length l.cells → row l y ≡ take l.width (drop (y * l.stride) l.cells)
row_is l y _ = row_stretch l y

pub length-row : {T : Type 0} (l : Layout T) (y : ℕ) → y * l.stride + l.width ≤ length l.cells → length (row l y) ≡ l.width
length-row l y h = rw (row_stretch l y) (omega (arith, length-take l.width (drop (y * l.stride) l.cells), length-drop (y * l.stride) l.cells))

-- ---- all rows

pub slice_get-tabulated : {X : Type 0} (f : ℕ → X) (a n k : ℕ) → k < n → slice_get (map f (range_with_len a n)) k ≡ Some (f (a + k))
slice_get-tabulated f a n k below =
    slice_get-get_or (map f (range_with_len a n)) k (f (a + k)) (omega (arith, length-map-range_with_len f a n))
    ∙ ap Some (get_or-map-range_with_len f a n k (a + k) (f (a + k)) below refl)

pub length-rows : {T : Type 0} (l : Layout T) → length (rows l) ≡ row_count l.width l.height
length-rows l = length-map-range_with_len (row l) 0 (row_count l.width l.height)

-- with a column there are as many rows as the height says
pub row_count-wide : (width height : ℕ) → 0 < width → row_count width height ≡ height
row_count-wide width height wide = cond-false (width == 0) 0 height (ne_eqb width 0 (λ e. omega arith))

-- where there is a row there is a column
pub some_column : (width height y : ℕ) → y < row_count width height → 0 < width
some_column zero height y below = absurd (omega (arith, below))
some_column (suc width) height y below = omega arith

pub row_count-le : (width height : ℕ) → row_count width height ≤ height
row_count-le width height = cond_both (width == 0) 0 height (λ n. n ≤ height) (λ _. omega arith) (λ _. omega arith)

-- a size of some height without this row has no column
pub no_column : (width height y : ℕ) → row_count width height ≤ y → y < height → width ≡ 0
no_column zero height y none high = refl
no_column (suc v) height y none high = absurd (omega (arith, none, high, row_count-wide (suc v) height (omega arith)))

-- where there is a row there is a pixel
pub some_pixel : (width height y : ℕ) → y < row_count width height → 0 < width * height
some_pixel width height y below = grind (arith, row_count-le)

-- ---- the rows of a grid

pub filter_map-same : {X : Type 0} (f g : ℕ → Option X) (a n : ℕ) → ((x : ℕ) → x < a + n → f x ≡ g x) → filter_map f (range_with_len a n) ≡ filter_map g (range_with_len a n)
filter_map-same f g a zero each = refl
filter_map-same f g a (suc n) each = grind (arith, filter_map-same f g (a + 1) n)

pub map-same : {X : Type 0} (f g : ℕ → X) (a n : ℕ) → ((x : ℕ) → x < a + n → f x ≡ g x) → map f (range_with_len a n) ≡ map g (range_with_len a n)
map-same f g a zero each = refl
map-same f g a (suc n) each = grind (arith, map-same f g (a + 1) n)

-- a row of a layout's grid is that of the layout
pub grid_row_of : {T : Type 0} (l : Layout T) (y : ℕ) → y < l.height → grid_row (grid_of l) y ≡ row l y
unfolding grid_of
grid_row_of l y line = filter_map-same (λ x. (grid_of l).pixel x y) (λ x. pixel l x y) 0 l.width (λ x below. pixel_at l x y (omega arith) line)

-- and so are all rows
pub grid_rows_of : {T : Type 0} (l : Layout T) → grid_rows (grid_of l) ≡ rows l
unfolding grid_of
grid_rows_of l = map-same (grid_row (grid_of l)) (row l) 0 (row_count l.width l.height) (λ y below. grid_row_of l y (omega (arith, row_count-le l.width l.height)))

-- and the joined rows, which are the pixels
pub grid_joined_rows_of : {T : Type 0} (l : Layout T) → grid_joined_rows (grid_of l) ≡ joined_rows l
grid_joined_rows_of l = ap (flat_map (λ r. r)) (grid_rows_of l)

-- ---- joined rows

-- the first n rows, joined
abbrev pub joined_upto : {T : Type 0} → Layout T → ℕ → List T
joined_upto l n = flat_map (λ r. r) (map (row l) (range_with_len 0 n))

pub joined_upto_more : {T : Type 0} (l : Layout T) (n : ℕ) → joined_upto l (n + 1) ≡ joined_upto l n ++ row l n
joined_upto_more l n =
    rw (map-range_with_len_more (row l) 0 n n (omega arith), flat_map-append (λ r. r) (map (row l) (range_with_len 0 n)) (row l n ∷ []), append-nil (row l n)) refl

pub joined_upto_suc : {T : Type 0} (l : Layout T) (n : ℕ) → joined_upto l (suc n) ≡ joined_upto l n ++ row l n
joined_upto_suc l n = subst (λ k. joined_upto l k ≡ joined_upto l n ++ row l n) (add-one n) (joined_upto_more l n)

pub row_empty : {T : Type 0} (cells : List T) (h s n : ℕ) → joined_upto (record { cells = cells; width = 0; height = h; stride = s }) n ≡ []
row_empty {T} cells h s zero = refl
row_empty {T} cells h s (suc n) = search (rules, joined_upto_suc, row_empty cells h s n)

-- the joined rows, whatever the width
pub joined_is : {T : Type 0} (cells : List T) (w h s : ℕ) → let l : Layout T = record { cells = cells; width = w; height = h; stride = s } in joined_rows l ≡ joined_upto l h
joined_is {T} cells zero h s = sym (row_empty cells h s h)
joined_is {T} cells (suc v) h s = grind arith

-- the first n rows are whole in the cells
abbrev pub HasRows : {T : Type 0} → Layout T → ℕ → Type 0
HasRows l n = (y : ℕ) → y < n → y * l.stride + l.width ≤ length l.cells

pub length-joined_upto : {T : Type 0} (l : Layout T) (n : ℕ) → HasRows l n → length (joined_upto l n) ≡ n * l.width
length-joined_upto l zero h = omega arith
length-joined_upto l (suc n) h =
    let below : HasRows l n = λ y lt. h y (omega arith) in
    let one = length-row l n (h n (omega arith)) in
    rw (joined_upto_suc l n) (omega (arith, length-append (joined_upto l n) (row l n), length-joined_upto l n below, one))

-- cells that fit a size have each row that has a pixel
pub row_reached : (count width height stride y : ℕ) → Reaches count width height stride → y < row_count width height → y * stride + width ≤ count
row_reached count width height stride y fits below = grind (arith, row_count-le)

pub rows_from_fits : {T : Type 0} (l : Layout T) → Fits l → 0 < l.width → HasRows l l.height
rows_from_fits l fits some y lt = row_reached (length l.cells) l.width l.height l.stride y fits (rw (row_count-wide l.width l.height some) lt)

-- where the rows touch, the joined rows are the first cells
joined_touching : {T : Type 0} (l : Layout T) (n : ℕ) → l.width ≡ l.stride → joined_upto l n ≡ take (n * l.width) l.cells
joined_touching l zero e = ap (λ k. take k l.cells) (let z : 0 ≡ 0 * l.width = omega arith in z)
joined_touching l (suc n) e =
    let places : n * l.stride ≡ n * l.width = ap (λ k. n * k) (sym e) in
    let next : row l n ≡ take l.width (drop (n * l.width) l.cells) = row_stretch l n ∙ ap (λ k. take l.width (drop k l.cells)) places in
    let end : n * l.width + l.width ≡ suc n * l.width = omega arith in
    joined_upto_suc l n ∙ ap (λ xs. xs ++ row l n) (joined_touching l n e) ∙ ap (λ xs. take (n * l.width) l.cells ++ xs) next ∙ sym (take-add (n * l.width) l.width l.cells) ∙ ap (λ k. take k l.cells) end

-- with columns, the joined rows are as many cells as there are places
pub length-joined_rows : {T : Type 0} (cells : List T) (w h s : ℕ) → Fits (layout cells w h s) → length (joined_rows (layout cells w h s)) ≡ w * h
length-joined_rows cells zero h s fits = omega arith
length-joined_rows {T} cells (suc v) h s fits =
    let l : Layout T = layout cells (suc v) h s in
    rw (joined_is cells (suc v) h s) (omega (arith, length-joined_upto l h (rows_from_fits l fits (omega arith))))

-- where rows touch, or there is no pixel, the joined rows are the first cells, as many as there are
pub joined_first : {T : Type 0} (cells : List T) (w h s : ℕ) → (0 < w → 0 < h → w ≡ s) → joined_rows (layout cells w h s) ≡ take (w * h) cells
joined_first {T} cells (suc v) (suc n) s touch =
    let l : Layout T = layout cells (suc v) (suc n) s in
    let turned : suc n * suc v ≡ suc v * suc n = omega arith in
    joined_is cells (suc v) (suc n) s
    ∙ joined_touching l (suc n) (touch (omega arith) (omega arith))
    ∙ ap (λ k. take k cells) turned
joined_first cells _ _ s touch = grind arith

-- and all of them are there where the layout fits
pub joined_in_place : {T : Type 0} (cells : List T) (w h s : ℕ) → Fits (layout cells w h s) → (0 < w → 0 < h → w ≡ s) → joined_rows (layout cells w h s) ≡ take (w * h) cells
joined_in_place cells w h s _ touch = joined_first cells w h s touch
