-- What fits, where pixels lie, and what stays outside them.
use Rattle.std.proofs.Common.{rules, ℕ, ◌+◌, ◌*◌, ◌<◌, length, set, refl, sym, arith, length-set}
use Rattle.std.specs.Bool.{Decides}
use Rattle.image_model.specs.Layout.{Layout, Reaches, Fits, is_fitting, cell_of, SameOutside}
use Rattle.image_model.proofs.Cells.{slice_get-set_other}

-- the test of the fit tells whether a layout fits
pub is_fitting_decides : {T : Type 0} (l : Layout T) → Decides (is_fitting l) (Fits l)
is_fitting_decides l = grind arith

-- where so many cells reach the last pixel, each has one
pub reached : (count width height stride x y : ℕ) → Reaches count width height stride → x < width → y < height → y * stride + x < count
reached count width height stride x y reaches column line = grind arith

-- a pixel has a cell
pub cell_within : {T : Type 0} (l : Layout T) → Fits l → (x y : ℕ) → x < l.width → y < l.height → cell_of l x y < length l.cells
cell_within l fits x y column line = reached (length l.cells) l.width l.height l.stride x y fits column line

-- ---- the outside

pub outside_refl : {T : Type 0} (l : Layout T) → SameOutside l l
outside_refl l = record { width_stays = refl; height_stays = refl; stride_stays = refl; length_stays = refl; padding_stays = λ k p. refl }

-- what stays twice stays
pub outside_trans : {T : Type 0} (old mid new : Layout T) → SameOutside old mid → SameOutside mid new → SameOutside old new
outside_trans old mid new one two = search rules

-- with the same outside, what fits fits
pub outside_fits : {T : Type 0} (old new : Layout T) → SameOutside old new → Fits old → Fits new
outside_fits old new same fits wide high = grind arith

-- ---- a write at a place

-- the layout with a value in the cell of a place
abbrev pub written : {T : Type 0} → Layout T → ℕ → ℕ → T → Layout T
written l x y value = record l { cells = set l.cells (cell_of l x y) value }

-- a write at a place leaves the outside
pub written_outside : {T : Type 0} (l : Layout T) (x y : ℕ) (value : T) → x < l.width → y < l.height → SameOutside l (written l x y value)
written_outside l x y value column line = record {
  width_stays = refl;
  height_stays = refl;
  stride_stays = refl;
  length_stays = length-set l.cells (cell_of l x y) value;
  padding_stays = λ k padding. slice_get-set_other l.cells (cell_of l x y) k value (λ e. padding.no_place x y column line (sym e));
}

-- and the layout fits as before
pub written_fits : {T : Type 0} (l : Layout T) (x y : ℕ) (value : T) → Fits l → Fits (written l x y value)
written_fits l x y value fits wide high = rw length-set (fits wide high)
