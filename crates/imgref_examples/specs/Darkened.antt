-- Windows filled with the pixel at their corner.
use Rattle.std.specs.Prelude.{ℕ, nat_lt, if◌then◌else◌, fold}
use Rattle.std.specs.Option.{unwrap_or}
use Rattle.image_model.specs.Layout.{Layout}
use Rattle.image_model.specs.Grid.{Grid, grid_of, patch, uniform}
use Rattle.image_model.specs.Windows.{Window}
use Rattle.image_model.specs.Tiles.{tiles}

-- the pixel at the corner of a window, 255 where there is none
abbrev pub corner_of : Grid ℕ → Window → ℕ
corner_of g w = unwrap_or (g.pixel w.left w.top) 255

-- the window is filled with it where it is below 128
unfoldable pub darkened : Grid ℕ → Window → Grid ℕ
darkened g w = if nat_lt (corner_of g w) 128 then patch g w.left w.top (uniform w.width w.height (corner_of g w)) else g

-- what an image shows after its tiles of 8 by 8 were darkened, one after the other
abbrev pub all_darkened : Layout ℕ → Grid ℕ
all_darkened l = fold darkened (grid_of l) (tiles l.width l.height 8 8)
