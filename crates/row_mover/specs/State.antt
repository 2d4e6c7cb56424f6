-- A mover, as contracts see it.
use Rattle.std.specs.Prelude.{ℕ, List, ◌++◌, length, drop, Bool, true, false, ◌≡◌, ◌+◌, ◌-◌, ◌*◌, ◌<◌, ◌≤◌}
use Rattle.image_model.specs.Layout.{layout, Fits}
use Rattle.image_model.specs.Rows.{joined_rows}
use Rattle.image_model.specs.Shifts.{rows_compacted, rows_moved, shifted, MovesRows}

-- the cells now, the number of shifts so far, and the ghost name of the borrowed list
pub record State (T : Type 0) : Type 0 where
  pub cells : List T
  pub shifts : ℕ
  pub lender : ℕ

-- what is known of a stretch that goes from one cell to another: it has n to 2 * n cells, where n isn't 0, and how it goes has a number (`ANY` to `BEFORE` in `mover`)
pub record IsKnown (n how start len target : ℕ) : Type 0 where
  pub enough : n ≤ len
  pub few : 0 < n → len ≤ 2 * n
  pub next : how ≡ 1 → target ≡ start + 1
  pub previous : how ≡ 2 → start ≡ target + 1
  pub behind : how ≡ 3 → start + len ≤ target
  pub before : how ≡ 4 → target + len ≤ start

-- a stretch of a list of so many cells goes to another place in it: towards the back or not
pub record GoesTo (up : Bool) (start len target count : ℕ) : Type 0 where
  pub back : up ≡ true → start ≤ target
  pub front : up ≡ false → target ≤ start
  pub source : start + len ≤ count
  pub inside : target + len ≤ count

-- where a block of n cells of a stretch begins, of which so many are copied after it: towards the back these come before it
abbrev pub block_at : Bool → ℕ → ℕ → ℕ → ℕ
block_at true len left n = left
block_at false len left n = len - n - left

-- a stretch has gone to another place, by one shift
pub record IsShifted {T : Type 0} (old new : State T) (start len target : ℕ) : Type 0 where
  pub cells : new.cells ≡ shifted old.cells start len target
  pub as_many : length new.cells ≡ length old.cells
  pub shifts : new.shifts ≡ old.shifts + 1
  pub lender : new.lender ≡ old.lender

-- ---- rows

-- these rows fit the list, have pixels, and don't touch
pub record AreApart {T : Type 0} (cells : List T) (width height stride : ℕ) : Type 0 where
  pub fits : Fits (layout cells width height stride)
  pub some : 0 < width
  pub apart : width < stride
  pub row : 0 < height

-- they are joined at the front of the list, by one shift for each that doesn't touch the one before
pub record AreJoined {T : Type 0} (old new : State T) (width height stride : ℕ) : Type 0 where
  pub cells : new.cells ≡ joined_rows (layout old.cells width height stride) ++ drop (width * height) old.cells
  pub as_many : length new.cells ≡ length old.cells
  pub shifts : new.shifts ≡ old.shifts + rows_compacted width height stride
  pub lender : new.lender ≡ old.lender

-- a window whose rows have pixels is in a list of so many cells, and so is the place to which it moves
pub record CanMove (count stride from to width height : ℕ) : Type 0 where
  pub some : 0 < width
  pub row : 0 < height
  pub holds_width : width ≤ stride
  pub source : from + (stride * (height - 1) + width) ≤ count
  pub target : to + (stride * (height - 1) + width) ≤ count

-- the window has moved there, by one shift a row
pub record AreMoved {T : Type 0} (old new : State T) (stride from to width height : ℕ) : Type 0 where
  pub cells : MovesRows old.cells new.cells stride from to width height
  pub shifts : new.shifts ≡ old.shifts + rows_moved width height
  pub lender : new.lender ≡ old.lender
