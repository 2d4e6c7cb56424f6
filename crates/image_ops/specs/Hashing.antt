-- What an image of bytes feeds to a hasher, each row by one write.
use Rattle.std.specs.Prelude.{ℕ, [], ◌++◌, if◌then◌else◌}
use Rattle.std.specs.Hash as fed
use Rattle.std.specs.Hash.{HashWrites}
use Rattle.image_model.specs.Layout.{Layout, is_fitting}
use Rattle.image_model.specs.Rows.{rows}

-- the width and the height as `u32`, and then, where the layout fits, the bytes of each row at once
abbrev pub fed_by_rows : Layout ℕ → HashWrites
fed_by_rows l = fed.u32 l.width ++ (fed.u32 l.height ++ (if is_fitting l then rows l else []))
