-- The tiles that a cursor still gives: those of its tiling, where its image fits.
use Rattle.std.proofs.Common.{◌≡◌, List}
use Rattle.std.proofs.lemmas.Bool.{cond-true}
use Rattle.image_model.specs.Layout.{Fits, is_fitting}
use Rattle.image_model.proofs.Places.{is_fitting_decides}
use Rattle.imgref.specs.Image.{layout_by}
use Rattle.image_tiles.specs.Lending.{tiles_left, image_of, tiling_of}
use Rattle.image_tiles.specs.Tiling.{windows_left}
use Rattle.image_tiles.specs.declared.tiles.TileCursor.{TileCursor}

pub tiles_all_left : {C T : Type 0} (cells : C → List T) (s : TileCursor C) → Fits (layout_by cells (image_of s)) → tiles_left cells s ≡ windows_left (tiling_of s)
tiles_all_left cells s fits = cond-true (is_fitting (layout_by cells (image_of s))) _ _ ((is_fitting_decides (layout_by cells (image_of s))).1 fits)
