-- Pixels of several cells that come from other places of a source: pixel by pixel, row by row, and all of them.
use Rattle.std.proofs.Common.{◌≡◌, ℕ, ◌+◌, ◌-◌, ◌*◌, ◌/◌, ◌%◌, ◌<◌, ◌≤◌, List, length, Option, sym, ap, ◌∙◌, subst, arith, inl, inr}
use Rattle.std.specs.List.{slice_get}
use Rattle.std.proofs.lemmas.Bool.{cases_lt}
use Rattle.std.proofs.lemmas.Nat.{div-mul-add, mod-mul-add, mod_below, div_below, mul-le}
use Rattle.std.proofs.Math.Nat.{add-mul, mul_comm, mul-add-div_right, mul-add-mod_self_right}
use Rattle.image_model.specs.Layout.{Layout, Reaches}
use Rattle.image_model.specs.Grid.{Grid, grid, grid_of, view}
use Rattle.image_model.specs.Turns.{transposed, turned_right, turned_half, turned_left}
use Rattle.image_model.specs.Windows.{Stretch, with_stretch}
use Rattle.image_model.proofs.Stretches.{length-with_stretch, with_stretch_at, with_stretch_beside}
use Rattle.image_model.proofs.Grids.{at_place, same_grids}
use Rattle.image_shape.specs.Shape.{shaped, shaped_grid}
use Rattle.image_shape.specs.declared.shape.Shape.{Shape}
use Rattle.image_turns.specs.Oriented.{source_column, source_row, oriented_width, oriented_height, oriented, source_cell}
use Rattle.image_turns.specs.Sizes.{AreOriented}
use Rattle.image_turns.specs.declared.pixel_turning.Orientation.{Orientation}
use Rattle.image_turns.specs.declared.pixel_turning.Orientation.TheVariants.{Transposed, Right, Half, Left}
use Rattle.image_turns.specs.declared.pixel_turning.Origin.{Origin}
use Rattle.image_writes.specs.Written.{Becomes}
use Rattle.image_writes.proofs.Gathering.{GatheredTo}
use Rattle.image_writes.proofs.PixelsOfRows.{cells_within, pixels_of_row}
use Rattle.image_turns.proofs.Windowed.{ShowsWhere, shows_all}

-- ---- places

-- the source has the place that is shown
pub source_within : (o : Orientation) (columns rows x y : ℕ) → x < oriented_width o columns rows → y < oriented_height o columns rows → (source_column o columns x y < columns) × (source_row o rows x y < rows)
source_within Transposed columns rows x y column line = (line, column)
source_within Right columns rows x y column line = (line, omega (arith, column))
source_within Half columns rows x y column line = (omega (arith, column), omega (arith, line))
source_within Left columns rows x y column line = (omega (arith, line), column)

-- ---- pixels of one cell

-- they come from the same places
same_places : {T : Type 0} (o : Orientation) (g : Grid T)
    → grid (oriented_width o g.width g.height) (oriented_height o g.width g.height) (λ x y. g.pixel (source_column o g.width x y) (source_row o g.height x y)) ≡ oriented 1 o g
same_places o g =
    let wide : g.width ≡ g.width / 1 = omega arith in
    let same : (x : ℕ) → x ≡ x / 1 = λ x. omega arith in
    let once : (n : ℕ) → n ≡ n * 1 = λ n. omega arith in
    let alone : (n x : ℕ) → n ≡ n * 1 + x % 1 = λ n x. let none : x % 1 ≡ 0 = omega arith in omega (arith, none) in
    let width = ap (λ n. oriented_width o n g.height) wide ∙ once (oriented_width o (g.width / 1) g.height) in
    let column : (x y : ℕ) → source_column o g.width x y ≡ source_column o (g.width / 1) (x / 1) y * 1 + x % 1 =
    λ x y. (λ i. source_column o (wide i) (same x i) y) ∙ alone (source_column o (g.width / 1) (x / 1) y) x in
    λ i. grid (width i) (oriented_height o (wide i) g.height) (λ x y. g.pixel (column x y i) (source_row o g.height (same x i) y))

-- the grid transposed or turned
abbrev pub placed : {T : Type 0} → Orientation → Grid T → Grid T
placed Transposed g = transposed g
placed Right g = turned_right g
placed Half g = turned_half g
placed Left g = turned_left g

pub placed_cells : {T : Type 0} (o : Orientation) (g : Grid T) → placed o g ≡ oriented 1 o g
unfolding transposed turned_right turned_half turned_left
placed_cells Transposed g = same_places Transposed g
placed_cells Right g = same_places Right g
placed_cells Half g = same_places Half g
placed_cells Left g = same_places Left g

-- ---- pixel by pixel

-- cell c of a pixel comes from cell c of the pixel at its place
pub cell_of_pixel : (o : Orientation) (size stride columns rows left y x c : ℕ) → c < size
    → source_cell o size stride columns rows left y (x * size + c) ≡ source_row o rows (left + x) y * stride + source_column o columns (left + x) y * size + c
cell_of_pixel o size stride columns rows left y x c here =
    ap (λ n. source_row o rows (left + n) y * stride + (source_column o columns (left + n) y * size + (x * size + c) % size)) (div-mul-add x size c here)
    ∙ ap (λ n. source_row o rows (left + x) y * stride + (source_column o columns (left + x) y * size + n)) (mod-mul-add x size c here)
    ∙ omega arith

-- a row of the source has so many pixels from a column on, and so do the cells
pub pixels_reach : (size len width height stride columns column count line : ℕ) → Reaches len width height stride → width ≡ columns * size → 0 < size → 0 < count → column + count ≤ columns → line < height
    → line * stride + column * size + count * size ≤ len
pixels_reach size len width height stride columns column count line fits wide some many across down =
    let far : (column + count) * size ≤ columns * size = mul-le (column + count) size columns size across (omega arith) in
    let one : 1 * size ≤ count * size = mul-le 1 size count size many (omega arith) in
    let above : line * stride ≤ (height - 1) * stride = mul-le line stride (height - 1) stride (omega (arith, down)) (omega arith) in
    let reach = fits (omega (arith, wide, far, one, some, add-mul column count size)) (omega (arith, down)) in
    omega (arith, far, add-mul column count size, above, reach, wide, mul_comm stride (height - 1))

-- one pixel more, with the cells after it that were written, too
pub one_pixel_more : {T : Type 0} (size many : ℕ) (from : ℕ → ℕ) (source old now : List T) (x start : ℕ) (block : List T) → GatheredTo from source old now (x * size) → length block ≡ many → size ≤ many → x * size + many ≤ length old
    → ((c : ℕ) → c < size → slice_get block c ≡ slice_get source (start + c)) → ((c : ℕ) → c < size → from (x * size + c) ≡ start + c)
    → GatheredTo from source old (with_stretch now (record { start = x * size; len = many }) block) ((x + 1) * size)
one_pixel_more size many from source old now x start block so long enough inside shows comes =
    let s : Stretch = record { start = x * size; len = many } in
    let within : x * size + many ≤ length now = omega (arith, inside, so.as_many) in
    let next : (x + 1) * size ≡ x * size + size = omega arith in
    record {
      as_many = length-with_stretch now s block within long ∙ so.as_many;
      each = λ k below.
          elim (cases_lt k (x * size)) [
            | inl before ↦ with_stretch_beside now s block within long k (inl before) ∙ so.each k before
            | inr here ↦
                let c : ℕ = k - x * size in
                let at : x * size + c ≡ k = omega (arith, here) in
                let few : c < size = omega (arith, here, below, next) in
                ap (slice_get (with_stretch now s block)) (sym at)
                ∙ with_stretch_at now s block within c (omega (arith, few, long, enough))
                ∙ shows c few
                ∙ ap (slice_get source) (sym (comes c few) ∙ ap from at)
          ];
    }

-- ---- row by row

module _ {T : Type 0} (size : ℕ) (some : 0 < size) (o : Orientation) (l : Layout T) (columns : ℕ) (wide : l.width ≡ columns * size) where
  -- how many pixels a row of the source has
  pub columns_are : l.width / size ≡ columns
  columns_are = pixels_of_row size columns l.width some wide

  -- the column and the row that column x of row y shows, counted from column `left` on
  abbrev pub shown_column : ℕ → ℕ → ℕ → ℕ
  shown_column left x y = source_column o columns (left + x / size) y * size + x % size

  abbrev pub shown_row : ℕ → ℕ → ℕ → ℕ
  shown_row left x y = source_row o l.height (left + x / size) y

  module _ (left count height : ℕ) (across : left + count ≤ oriented_width o columns l.height) (down : height ≡ oriented_height o columns l.height) where
    -- the source has them
    pub shown_within : (x y : ℕ) → x < count * size → y < height → (shown_column left x y < l.width) × (shown_row left x y < l.height)
    shown_within x y column line =
        let number : x / size < count = div_below x size count some column in
        let place = source_within o columns l.height (left + x / size) y (omega (arith, number, across)) (omega (arith, line, down)) in
        (omega (arith, wide, cells_within size columns (source_column o columns (left + x / size) y) (x % size) place.0 (mod_below x size some)), place.1)

    -- and so does the view of the image
    pub view_shown : grid (count * size) height (λ x y. (grid_of l).pixel (shown_column left x y) (shown_row left x y)) ≡ view (oriented size o (grid_of l)) (left * size) 0 (count * size) height
    unfolding view grid_of
    view_shown =
        same_grids (count * size) height _ _ (λ x y column line.
        let far : (left + count) * size ≤ oriented_width o columns l.height * size = mul-le (left + count) size (oriented_width o columns l.height) size across (omega arith) in
        let in_x : left * size + x < oriented_width o (l.width / size) l.height * size =
        subst (λ n. left * size + x < oriented_width o n l.height * size) (sym columns_are) (omega (arith, far, add-mul left count size, column)) in
        let in_y : 0 + y < oriented_height o (l.width / size) l.height = subst (λ n. 0 + y < oriented_height o n l.height) (sym columns_are) (omega (arith, line, down)) in
        let same_x : (left * size + x) / size ≡ left + x / size = mul-add-div_right some left x in
        let same_cell : (left * size + x) % size ≡ x % size = mul-add-mod_self_right left size x in
        let same_y : 0 + y ≡ y = omega arith in
        sym (at_place (oriented_width o (l.width / size) l.height * size) (oriented_height o (l.width / size) l.height)
        (λ u v. (grid_of l).pixel (source_column o (l.width / size) (u / size) v * size + u % size) (source_row o l.height (u / size) v)) (left * size + x) (0 + y) in_x in_y
        ∙ (λ i. (grid_of l).pixel (source_column o (columns_are i) (same_x i) (same_y i) * size + same_cell i) (source_row o l.height (same_x i) (same_y i)))))

-- ---- all pixels

-- once all places show the source's places, the image becomes that
pub becomes_oriented : {T : Type 0} {size : ℕ} {Done : ℕ → ℕ → Type 0} {old now source : List T} {s : Shape} {from : Origin} → AreOriented size old s source from
    → ShowsWhere Done (oriented size from.orientation (shaped_grid source from.shape)) old now s → ((x y : ℕ) → x < s.width → y < s.height → Done x y) → Becomes s old now (oriented size from.orientation (shaped_grid source from.shape))
unfolding grid_of
becomes_oriented {T} {size} {source = source} {s} {from} sizes so all =
    let l : Layout T = shaped source from.shape in
    let o = from.orientation in
    let are : l.width / size ≡ from.columns = columns_are size sizes.some o l from.columns sizes.source_width in
    let width : oriented_width o (l.width / size) l.height * size ≡ s.width = ap (λ n. oriented_width o n l.height * size) are ∙ sym sizes.width in
    let height : oriented_height o (l.width / size) l.height ≡ s.height = ap (λ n. oriented_height o n l.height) are ∙ sym sizes.height in
    let f : ℕ → ℕ → Option T = λ x y. (grid_of l).pixel (source_column o (l.width / size) (x / size) y * size + x % size) (source_row o l.height (x / size) y) in
    shows_all so all f (λ i. grid (width i) (height i) f)
