-- The cells of an image after its last row is filled.
use Rattle.std.specs.Prelude.{ℕ, zero, suc, ◌*◌, List, replicate}
use Rattle.image_model.specs.Layout.{Layout}
use Rattle.image_model.specs.Rows.{row_count}
use Rattle.image_model.specs.Windows.{with_stretch}

-- the cells with one value in the last of so many rows, if there is one
abbrev pub with_last_of : {T : Type 0} → ℕ → Layout T → T → List T
with_last_of zero l value = l.cells
with_last_of (suc n) l value = with_stretch l.cells (record { start = n * l.stride; len = l.width }) (replicate l.width value)

-- the cells with one value in their last row, if they have one
abbrev pub with_last_row : {T : Type 0} → Layout T → T → List T
with_last_row l value = with_last_of (row_count l.width l.height) l value
