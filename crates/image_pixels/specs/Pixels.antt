-- What a contract sees of a pixel cursor: the pixels that are left, and how writes reach the buffer.
use Rattle.std.specs.Prelude.{◌≡◌, ◌<◌, ◌*◌, ◌^◌, ℕ, Bool, List, [], ◌∷◌, ◌++◌, take, length, replicate, true, false, Option, Some, None}
use Rattle.std.specs.Borrow.{Bor, MutBor, GName, Fml, RattleType, ftrue, follows_both, Array}
use base.Fml.{fres}
use base.Stored.{coded_list}
use Rattle.image_model.specs.Layout.{Layout}
use Rattle.image_model.specs.Grid.{grid_of}
use Rattle.image_model.specs.Rows.{pixels as pixels_of, grid_pixels}
use Rattle.image_pixels.specs.Marks.{pick, marks, skipped}
use Rattle.image_pixels.specs.declared.pixels.PixelsRefIter.{PixelsRefIter}
use Rattle.image_pixels.specs.declared.pixels.PixelsIter.{PixelsIter}
use Rattle.image_pixels.specs.declared.pixels_mut.PixelsIterMut.{PixelsIterMut}

module _ {T : Type 0} where
  -- these are all pixels of a layout and of its grid, row by row and from left to right: width * height of them, a number below 2^64
  pub record ArePixels (l : Layout T) (xs : List T) : Type 0 where
    pub pixels : xs ≡ pixels_of l
    pub grid : xs ≡ grid_pixels (grid_of l)
    pub count : length xs ≡ l.width * l.height
    pub countable : length xs < 2 ^ 64

  -- the pixels that are left in a cursor for reading
  unfoldable pub refs_left : PixelsRefIter T → List T
  refs_left s = pick (marks s.remaining s.rows_left s.width s.pad) s.cells.cells

  -- the next pixels are taken as one row, or no pixel is left
  abbrev pub TakesRow : List T → Option (Bor (List T)) → List T → Type 0
  TakesRow xs None ys = (xs ≡ []) × (ys ≡ [])
  TakesRow xs (Some row) ys = (xs ≡ row.now ++ ys) × (0 < length row.now)

  -- the copies that are left in a cursor
  unfoldable pub copies_left : PixelsIter T → List T
  copies_left s = refs_left s.inner

  -- the cells from the next one on
  abbrev pub cells_left : PixelsIterMut T → List T
  cells_left s = s.cells

  -- which of these are pixels
  abbrev pub marks_left : PixelsIterMut T → List Bool
  marks_left s = marks s.remaining s.rows_left s.width s.pad

  -- the pixels that are left in a cursor for writing
  unfoldable pub muts_left : PixelsIterMut T → List T
  muts_left s = pick (marks_left s) (cells_left s)

  -- the borrow of these cells
  abbrev pub pixels_name : PixelsIterMut T → GName
  pixels_name s = s.name

  -- what lent them
  abbrev pub lender_of : PixelsIterMut T → GName
  lender_of s = s.lender

  -- how many cells a cursor skips before the next pixel
  abbrev pub gap : PixelsIterMut T → ℕ
  gap s = skipped s.remaining s.pad

  -- these cells
  abbrev pub passed : PixelsIterMut T → List T
  passed s = take (gap s) (cells_left s)

  -- a step that returns a pixel steps over the padding before it and the pixel, and what is left is as it was
  abbrev pub Moves : PixelsIterMut T → Option (MutBor T) → PixelsIterMut T → Type 0
  Moves s None t = t ≡ s
  Moves s (Some x) t = (cells_left s ≡ passed s ++ x.now ∷ cells_left t) × (length (passed s) ≡ gap s)
      × (marks_left s ≡ replicate (gap s) false ++ true ∷ marks_left t)

-- the final cells of s: those skipped, the pixel's final value, and the final cells of t
abbrev pub hands_on : (R : RattleType) → PixelsIterMut R.Denot → Option (MutBor R.Denot) → PixelsIterMut R.Denot → Fml
hands_on R s None t = ftrue
hands_on R s (Some x) t = follows_both (Array R 0) R (Array R 0) (pixels_name s) x.ghost_name (pixels_name t) (λ w ws. passed s ++ w ∷ ws)

-- the final cells of s are those that it has now
abbrev pub leaves_as : (R : RattleType) → PixelsIterMut R.Denot → Fml
leaves_as R s = fres (pixels_name s) ((coded_list R.coded).code (cells_left s))
