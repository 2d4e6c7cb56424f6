-- A list of cells seen as an image: where its pixels are, and what is padding.
use Rattle.std.specs.Prelude.{◌≡◌, ◌≢◌, ℕ, ◌+◌, ◌-◌, ◌*◌, ◌<◌, ◌≤◌, Bool, ◌||◌, ◌==◌, nat_le, List, length, Option, slice_get}

-- the cells, and the width, the height and the stride that make an image of them
pub record Layout (T : Type 0) : Type 0 where
  pub cells : List T
  pub width : ℕ
  pub height : ℕ
  pub stride : ℕ

-- the layout of these cells
abbrev pub layout : {T : Type 0} → List T → ℕ → ℕ → ℕ → Layout T
layout cells width height stride = record { cells = cells; width = width; height = height; stride = stride }

-- so many cells reach the end of the last row, if there is a pixel at all
abbrev pub Reaches : ℕ → ℕ → ℕ → ℕ → Type 0
Reaches count width height stride = 0 < width → 0 < height → stride * (height - 1) + width ≤ count

-- a layout fits if its cells reach the last pixel
abbrev pub Fits : {T : Type 0} → Layout T → Type 0
Fits l = Reaches (length l.cells) l.width l.height l.stride

-- the same as a test
abbrev pub is_fitting : {T : Type 0} → Layout T → Bool
is_fitting l = (l.width == 0) || ((l.height == 0) || nat_le (l.stride * (l.height - 1) + l.width) (length l.cells))

-- the number of the cell of the place in column x of row y
abbrev pub cell_of : {T : Type 0} → Layout T → ℕ → ℕ → ℕ
cell_of l x y = y * l.stride + x

-- the pixel of the place in column x of row y
abbrev pub pixel : {T : Type 0} → Layout T → ℕ → ℕ → Option T
pixel l x y = slice_get l.cells (cell_of l x y)

-- cell k is padding of a size at a stride if it belongs to no place
pub record IsPadding (width height stride k : ℕ) : Type 0 where
  pub no_place : (x y : ℕ) → x < width → y < height → y * stride + x ≢ k

-- everything but the pixels is as before: the size, the stride, the length, and each cell of padding
pub record SameOutside {T : Type 0} (old new : Layout T) : Type 0 where
  pub width_stays : new.width ≡ old.width
  pub height_stays : new.height ≡ old.height
  pub stride_stays : new.stride ≡ old.stride
  pub length_stays : length new.cells ≡ length old.cells
  pub padding_stays : (k : ℕ) → IsPadding old.width old.height old.stride k → slice_get new.cells k ≡ slice_get old.cells k
