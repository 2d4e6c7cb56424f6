-- Lists of images that own their pixels.
use Rattle.std.specs.Prelude.{List, map, All, Vec}
use Rattle.image_model.specs.Layout.{Layout, Fits}
use Rattle.image_model.specs.Grid.{Grid, grid_of}
use Rattle.imgref.specs.declared.img.Img.{Img}
use Rattle.imgref.specs.Image.{vec_layout}

-- the layout of each image
abbrev pub layouts_of : {T Z : Type 0} → List (Img (Vec T Z)) → List (Layout T)
layouts_of images = map vec_layout images

-- each image fits
abbrev pub AllFit : {T Z : Type 0} → List (Img (Vec T Z)) → Type 0
AllFit images = All Fits (layouts_of images)

-- the grid of each image
abbrev pub grids_of : {T Z : Type 0} → List (Img (Vec T Z)) → List (Grid T)
grids_of images = map grid_of (layouts_of images)
