-- Packed layouts, and what is kept over runs one after the other.
use Rattle.std.proofs.Common.{◌≡◌, ℕ, ◌*◌, ◌<◌, ◌≤◌, Bool, false, length, take, refl, sym, ap, ◌∙◌, arith, length-take, ◌==◌, ◌||◌}
use Rattle.std.proofs.lemmas.Bool.{cond-false, ne_eqb}
use Rattle.std.proofs.lemmas.List.{take_all}
use Rattle.image_model.specs.Layout.{Layout, Fits, SameOutside}
use Rattle.image_model.specs.Grid.{grid_of}
use Rattle.image_model.specs.Rows.{joined_rows}
use Rattle.image_model.specs.Compaction.{least_stride, IsPacked, packed, IsKept}
use Rattle.image_model.proofs.Places.{outside_trans}
use Rattle.image_model.proofs.Grids.{same_grids_of}
use Rattle.image_model.proofs.Rows.{joined_first, length-joined_rows}
use Rattle.image_model.proofs.Pixels.{joined_pixel}

-- where there is a column, the least stride is the width
pub least_stride-wide : (width : ℕ) → 0 < width → least_stride width ≡ width
least_stride-wide width wide = cond-false (width == 0) 1 width (ne_eqb width 0 (λ e. omega arith))

-- under the least stride the joined rows are the first cells
joined_least : {T : Type 0} (l : Layout T) → l.stride ≡ least_stride l.width → joined_rows l ≡ take (l.width * l.height) l.cells
joined_least l stride = joined_first l.cells l.width l.height l.stride (λ wide high. sym (stride ∙ least_stride-wide l.width wide))

-- under the least stride, with no cell past the pixels, a layout is packed
pub packed_from : {T : Type 0} (l : Layout T) → l.stride ≡ least_stride l.width → length l.cells ≤ l.width * l.height → IsPacked l
packed_from l stride few = grind (arith, take_all, joined_least)

-- and a packed layout has no cell past the pixels
pub packed_within : {T : Type 0} (l : Layout T) → IsPacked l → length l.cells ≤ l.width * l.height
packed_within l packed = omega (arith, ap length (packed.joined ∙ joined_least l packed.stride_is), length-take (l.width * l.height) l.cells)

-- under the least stride, with as many cells as pixels, a layout fits
pub packed_fits : {T : Type 0} (l : Layout T) → l.stride ≡ least_stride l.width → l.width * l.height ≤ length l.cells → Fits l
packed_fits l stride enough wide high = grind arith

-- what is packed stays packed while its outside stays
pub packed_stays : {T : Type 0} (old new : Layout T) → IsPacked old → SameOutside old new → IsPacked new
packed_stays old new packed same = grind (arith, packed_from, packed_within)

-- ---- the packed layout of a layout

pub length-joined : {T : Type 0} (l : Layout T) → Fits l → length (joined_rows l) ≡ l.width * l.height
length-joined l fits = length-joined_rows l.cells l.width l.height l.stride fits

pub packed_is_packed : {T : Type 0} (l : Layout T) → Fits l → IsPacked (packed l)
packed_is_packed l fits = packed_from (packed l) refl (omega (arith, length-joined l fits))

pub packed_is_fit : {T : Type 0} (l : Layout T) → Fits l → Fits (packed l)
packed_is_fit l fits = packed_fits (packed l) refl (omega (arith, length-joined l fits))

-- it shows the same grid
pub packed_grid : {T : Type 0} (l : Layout T) → Fits l → grid_of (packed l) ≡ grid_of l
packed_grid l fits = grind (arith, same_grids_of, joined_pixel)

-- ---- runs one after the other

-- what is kept over two runs is kept over both: packed if one of them compacted
pub kept_twice : {T : Type 0} (one two : Bool) (old mid new : Layout T) → IsKept one old mid → IsKept two mid new → IsKept (one || two) old new
kept_twice false false old mid new first second = outside_trans old mid new first second
kept_twice _ _ old mid new first second = grind (arith, packed_stays)
