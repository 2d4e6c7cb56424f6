-- Shifts within one list of cells, and windows that are moved row by row.
use Rattle.std.specs.Prelude.{◌≡◌, ℕ, ◌+◌, ◌-◌, ◌*◌, ◌<◌, ◌&&◌, nat_lt, if◌then◌else◌, List, ◌++◌, take, drop, length, slice_get}

-- the list with the old cells of one stretch copied to another place, all others as before
abbrev pub shifted : {T : Type 0} → List T → ℕ → ℕ → ℕ → List T
shifted cells start len target = take target cells ++ take len (drop start cells) ++ drop (target + len) cells

-- how many rows a compaction shifts: all but the first, or 0 where the rows touch or have no column
abbrev pub rows_compacted : ℕ → ℕ → ℕ → ℕ
rows_compacted width height stride = if nat_lt 0 width && nat_lt width stride then height - 1 else 0

-- how many rows a move shifts: all, or 0 where they have no column
abbrev pub rows_moved : ℕ → ℕ → ℕ
rows_moved width height = if nat_lt 0 width then height else 0

-- cell k is the cell of a place of the window whose corner is the cell `corner`
pub record IsCellOf (corner stride width height k : ℕ) : Type 0 where
  pub x : ℕ
  pub y : ℕ
  pub column : x < width
  pub line : y < height
  pub there : k ≡ corner + y * stride + x

-- each place of the window at `to` has the old cell of that place of the window at `from`, and every other cell is as before
pub record MovesRows {T : Type 0} (old new : List T) (stride from to width height : ℕ) : Type 0 where
  pub length_stays : length new ≡ length old
  pub moved : (x y : ℕ) → x < width → y < height → slice_get new (to + y * stride + x) ≡ slice_get old (from + y * stride + x)
  pub others_stay : (k : ℕ) → (IsCellOf to stride width height k → ⊥) → slice_get new k ≡ slice_get old k
