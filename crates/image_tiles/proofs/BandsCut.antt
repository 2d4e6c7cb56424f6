-- A band taken off the cells: it and what is kept are a step of the iterator.
use Rattle.std.proofs.Common.{arith, ◌≡◌, ℕ, ◌<◌, List, drop, take, None, Some, MutBor}
use Rattle.std.proofs.lemmas.List.{drop-drop, drop-take}
use Rattle.std.specs.Iterator.{YieldsFirstBy}
use Rattle.image_model.specs.Layout.{Layout, layout}
use Rattle.image_shape.specs.declared.ends.End.TheVariants.{First}
use Rattle.image_shape.specs.Spacing.{span, outer_cut}
use Rattle.imgref.specs.declared.img.Img.{Img}
use Rattle.imgref.specs.Image.{mut_layout}
use Rattle.image_tiles.specs.declared.bands.BandSpacing.{BandSpacing}
use Rattle.image_tiles.specs.declared.bands.BandsMut.{BandsMut}
use Rattle.image_tiles.specs.Bands.{bands, bands_left, band_rows, behind}
use Rattle.image_tiles.proofs.BandsLeft.{first_off, no_bands}

abbrev bands_in : {T : Type 0} → BandSpacing → List T → List (Layout T)
bands_in p xs = bands (layout (drop p.rows.skip xs) p.rows.width p.rows.count p.rows.stride) p.band_height

-- how many cells the first band has, and where it ends
abbrev len : BandSpacing → ℕ
len p = span (band_rows p) p.rows

abbrev pub cut_end : BandSpacing → ℕ
cut_end p = outer_cut First (band_rows p) p.rows

-- the band and what is kept are the step of an iterator
pub given : {T : Type 0} (s t : BandsMut T) (band : Img (MutBor (List T))) (one : 0 < s.spacing.rows.count)
    → band.buf.now ≡ drop s.spacing.rows.skip (take (cut_end s.spacing) s.cells.now) → band.width ≡ s.spacing.rows.width → band.height ≡ band_rows s.spacing → band.stride ≡ s.spacing.rows.stride
    → t.cells.now ≡ drop (cut_end s.spacing) s.cells.now → t.spacing ≡ behind s.spacing → YieldsFirstBy mut_layout bands_left s (Some band) t
unfolding bands_left
given s t band one is_band wide tall apart is_kept is_rest = grind (arith, drop-take, drop-drop, first_off)

-- without a row there is no step
pub none_at : {T : Type 0} (s : BandsMut T) → s.spacing.rows.count ≡ 0 → YieldsFirstBy mut_layout bands_left s None s
unfolding bands_left
none_at s none = let p = s.spacing.rows in let no = no_bands (drop p.skip s.cells.now) p.width p.count p.stride s.spacing.band_height s.high none in (no, no)
