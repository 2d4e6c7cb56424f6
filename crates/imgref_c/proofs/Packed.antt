-- The rows of an image, joined at the front of its cells.
use Rattle.std.proofs.Common.{◌≡◌, List, ◌++◌, refl, ◌∙◌}
use Rattle.image_model.specs.Layout.{Layout, layout, Fits, cell_of}
use Rattle.image_model.specs.Grid.{grid_of}
use Rattle.image_model.specs.Rows.{joined_rows}
use Rattle.image_model.specs.Compaction.{least_stride, packed}
use Rattle.image_model.proofs.Cells.{slice_get-append_left}
use Rattle.image_model.proofs.Grids.{same_grids_of}
use Rattle.image_model.proofs.Compaction.{packed_grid, packed_is_fit}
use Rattle.image_model.proofs.Places.{cell_within}

-- at the least stride they show the image, whatever comes after them
pub joined_shows : {T : Type 0} (l : Layout T) (rest : List T) → Fits l → grid_of (layout (joined_rows l ++ rest) l.width l.height (least_stride l.width)) ≡ grid_of l
joined_shows l rest fits =
    same_grids_of (layout (joined_rows l ++ rest) l.width l.height (least_stride l.width)) (packed l) refl refl
    (λ x y column line. slice_get-append_left (joined_rows l) rest (cell_of (packed l) x y) (cell_within (packed l) (packed_is_fit l fits) x y column line))
    ∙ packed_grid l fits
