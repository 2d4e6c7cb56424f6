-- The bands of an image, of full width, with so many rows each (the last may have fewer), and what an iterator over them leaves.
use Rattle.std.specs.Prelude.{◌≡◌, ℕ, ◌-◌, ◌*◌, ◌==◌, if◌then◌else◌, List, ◌++◌, map, min, take, drop, Option, Some, None}
use Rattle.std.specs.List.{range_with_len}
use Rattle.std.specs.Borrow.{MutBor, GName, Fml, RattleType, ftrue, follows_both, Array}
use Rattle.image_model.specs.Layout.{Layout, layout}
use Rattle.image_model.specs.Tiles.{tile_count}
use Rattle.image_model.specs.Windows.{Window, window, exact_window}
use Rattle.image_shape.specs.declared.ends.End.TheVariants.{First}
use Rattle.image_shape.specs.Spacing.{whole_spacing, without}
use Rattle.imgref.specs.declared.img.Img.{Img}
use Rattle.imgref.specs.Image.{buf_of}
use Rattle.image_tiles.specs.declared.bands.BandSpacing.{BandSpacing}
use Rattle.image_tiles.specs.declared.bands.BandsMut.{BandsMut}

-- how many bands a size has: 0 where there is no column
abbrev pub band_count : ℕ → ℕ → ℕ → ℕ
band_count width height band_height = if width == 0 then 0 else tile_count band_height height

-- band j: all columns of its rows
abbrev pub band_window : ℕ → ℕ → ℕ → ℕ → Window
band_window width height band_height j = window 0 (j * band_height) width (min band_height (height - j * band_height))

-- the windows of the bands, from top to bottom
abbrev pub band_windows : ℕ → ℕ → ℕ → List Window
band_windows width height band_height = map (band_window width height band_height) (range_with_len 0 (band_count width height band_height))

-- the bands of a layout, each up to its last pixel
abbrev pub bands : {T : Type 0} → Layout T → ℕ → List (Layout T)
bands l band_height = map (λ j. exact_window l (band_window l.width l.height band_height j)) (range_with_len 0 (band_count l.width l.height band_height))

-- ---- where bands are in a list of cells

-- all rows of a size, as bands of so many rows
abbrev pub band_spacing : ℕ → ℕ → ℕ → ℕ → BandSpacing
band_spacing width height stride band_height = record { rows = whole_spacing width height stride; band_height = band_height }

-- how many rows the first band has
abbrev pub band_rows : BandSpacing → ℕ
band_rows s = min s.band_height s.rows.count

-- without the first band
abbrev pub behind : BandSpacing → BandSpacing
behind s = record s { rows = without First (band_rows s) s.rows }

module _ {T : Type 0} where
  -- the cells that an iterator still holds
  abbrev pub cells_left : BandsMut T → List T
  cells_left s = s.cells.now

  -- the borrow of these cells
  abbrev pub bands_name : BandsMut T → GName
  bands_name s = s.cells.ghost_name

  -- where the bands are in these cells
  abbrev pub spacing_left : BandsMut T → BandSpacing
  spacing_left s = s.spacing

  -- the bands that are left in an iterator
  unfoldable pub bands_left : BandsMut T → List (Layout T)
  bands_left s = let rows = s.spacing.rows in bands (layout (drop rows.skip (cells_left s)) rows.width rows.count rows.stride) s.spacing.band_height

  -- the cells of s, of which the first band and those after it may have changed
  abbrev pub put_back : BandsMut T → List T → List T → List T
  put_back s band kept = (take s.spacing.rows.skip (cells_left s) ++ band) ++ kept

  -- the cells are those before the band, the band's, and those kept; where there is no band nothing changes
  abbrev pub Moves : BandsMut T → Option (Img (MutBor (List T))) → BandsMut T → Type 0
  Moves s None t = t ≡ s
  Moves s (Some band) t = (cells_left s ≡ put_back s (buf_of band).now (cells_left t)) × (spacing_left t ≡ behind (spacing_left s))

-- the final cells of s: those before the band, the band's final cells, and the final cells of t
abbrev pub hands_on : (R : RattleType) → BandsMut R.Denot → Option (Img (MutBor (List R.Denot))) → BandsMut R.Denot → Fml
hands_on R s None t = ftrue
hands_on R s (Some band) t = follows_both (Array R 0) (Array R 0) (Array R 0) (bands_name s) (buf_of band).ghost_name (bands_name t) (put_back s)
