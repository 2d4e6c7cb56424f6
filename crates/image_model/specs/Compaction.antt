-- An image's layout after a run of commands.
use Rattle.std.specs.Prelude.{◌≡◌, ℕ, ◌==◌, if◌then◌else◌, Bool, MatchBool}
use Rattle.image_model.specs.Layout.{Layout, layout, SameOutside}
use Rattle.image_model.specs.Rows.{joined_rows}

-- the least stride of a width: the width, or 1 for width 0
abbrev pub least_stride : ℕ → ℕ
least_stride width = if width == 0 then 1 else width

-- a layout is packed if its cells are exactly its joined rows, with the least stride
pub record IsPacked {T : Type 0} (l : Layout T) : Type 0 where
  pub stride_is : l.stride ≡ least_stride l.width
  pub joined : l.cells ≡ joined_rows l

-- the packed layout of a layout: its joined rows with the least stride
abbrev pub packed : {T : Type 0} → Layout T → Layout T
packed l = layout (joined_rows l) l.width l.height (least_stride l.width)

-- without a compaction in between a layout keeps its outside, and with one it is packed
abbrev pub IsKept : {T : Type 0} → Bool → Layout T → Layout T → Type 0
IsKept compacted old new = MatchBool compacted (IsPacked new) (SameOutside old new)
