-- Images whose columns are rows: the places of the source that they show, and the strips and blocks that are written one after the other.
use Rattle.std.proofs.Common.{◌≡◌, true, false, refl, sym, List, Option, ℕ, ◌*◌, ◌+◌, ◌-◌, ◌<◌, ◌≤◌, ◌⊎◌, arith, inl, inr, min}
use Rattle.std.proofs.lemmas.Bool.{true≢false}
use Rattle.image_model.specs.Grid.{grid, grid_of}
use Rattle.image_shape.specs.Shape.{shaped_grid}
use Rattle.image_shape.specs.declared.shape.Shape.{Shape}
use Rattle.image_turns.specs.Quarters.{source_column, source_row, quartered, first_column, reads_back}
use Rattle.image_turns.specs.Sizes.{AreCrosswise}
use Rattle.image_writes.specs.Written.{Becomes}
use Rattle.image_turns.specs.declared.turning.Crossing.{Crossing}
use Rattle.image_turns.specs.declared.turning.Crossing.TheVariants.{Across, Right, Left}
use Rattle.image_turns.proofs.FromPlaces.{rows_back}
use Rattle.image_turns.proofs.Windowed.{IsBeside, ShowsWhere, shows_all}

-- the source has the place that is shown
pub source_place : (crossing : Crossing) (width height x y : ℕ) → x < height → y < width → (source_column crossing width x y < width) × (source_row crossing height x y < height)
source_place Across width height x y column line = (line, column)
source_place Right width height x y column line = (line, omega (arith, column))
source_place Left width height x y column line = (omega (arith, line), column)

-- the number of the cell that column x of row y shows, counted from the first row that is read
pub read_forth : (crossing : Crossing) (width height stride x y : ℕ) → reads_back crossing ≡ false
    → first_column crossing width y 1 + x * stride ≡ source_row crossing height x y * stride + source_column crossing width x y
read_forth Across width height stride x y forth = omega arith
read_forth Right width height stride x y forth = absurd (true≢false forth)
read_forth Left width height stride x y forth = omega arith

-- and back from the last one
pub read_back : (crossing : Crossing) (width height stride x y : ℕ) → reads_back crossing ≡ true → x < height
    → (height - 1) * stride + first_column crossing width y 1 - x * stride ≡ source_row crossing height x y * stride + source_column crossing width x y
read_back Across width height stride x y back below = absurd (true≢false (sym back))
read_back Right width height stride x y back below = rows_back height stride y x below
read_back Left width height stride x y back below = absurd (true≢false (sym back))

-- all columns begin with the first
pub whole_column : (crossing : Crossing) (width : ℕ) → 0 ≡ first_column crossing width 0 width
whole_column Across width = refl
whole_column Right width = refl
whole_column Left width = omega arith

-- the rows before this one, and of sixteen rows the columns before that one
abbrev pub InBlocks : ℕ → ℕ → ℕ → ℕ → Type 0
InBlocks left top x y = (y < top) ⊎ ((y < top + 16) × (x < left))

-- of one block more, which may begin earlier, those beside it come before
pub before_block : (width height left top column line x y : ℕ) → column ≡ min left (width - 16) → line ≡ min top (height - 16) → x < width → y < height → 16 ≤ width → 16 ≤ height → InBlocks (left + 16) top x y → IsBeside column line 16 16 x y
    → InBlocks left top x y
before_block width height left top column line x y is_column is_line in_x in_y wide high next beside =
    elim next [
      | inl above ↦ inl above
      | inr (upto, within) ↦
          elim beside [
            | inl before ↦ inr (upto, omega (arith, before))
            | inr (inl above) ↦ inl (omega (arith, above))
            | inr (inr (inl after)) ↦ absurd (omega (arith, after, within))
            | inr (inr (inr below)) ↦ absurd (omega (arith, below, upto))
          ]
    ]

-- the rows before this one
abbrev pub InRows : ℕ → ℕ → ℕ → Type 0
InRows top x y = y < top

-- of the rows before another one, those beside some rows come before them
pub before_rows : (width height top line lines upto x y : ℕ) → x < width → y < height → line ≤ top → min upto height ≤ line + lines → InRows upto x y → IsBeside 0 line width lines x y → InRows top x y
before_rows width height top line lines upto x y column below order reach next beside =
    elim beside [ inl before ↦ absurd (omega (arith, before)) | inr (inl above) ↦ omega (arith, above, order) | inr (inr (inl after)) ↦ absurd (omega (arith, after, column)) | inr (inr (inr under)) ↦ absurd (omega (arith, under, below, reach, next)) ]

-- once all places show the source, whose columns are rows, the image becomes that
pub becomes_quartered : {T : Type 0} {Done : ℕ → ℕ → Type 0} {old now source : List T} {s t : Shape} (crossing : Crossing) → AreCrosswise old s source t → ShowsWhere Done (quartered crossing (shaped_grid source t)) old now s
    → ((x y : ℕ) → x < s.width → y < s.height → Done x y) → Becomes s old now (quartered crossing (shaped_grid source t))
unfolding grid_of
becomes_quartered {T} {source = source} {t = t} crossing sizes so all =
    let shown : ℕ → ℕ → Option T = λ x y. (shaped_grid source t).pixel (source_column crossing t.width x y) (source_row crossing t.height x y) in
    shows_all so all shown (λ i. grid (sym sizes.columns i) (sym sizes.lines i) shown)
