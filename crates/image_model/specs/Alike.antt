-- When two images are equal, and what an image feeds to a hasher.
use Rattle.std.specs.Prelude.{◌≡◌, Bool, ◌&&◌, not, ◌==◌, if◌then◌else◌, [], ◌++◌, ◌⊎◌}
use Rattle.std.specs.List.{flat_map}
use Rattle.std.specs.Cmp.Lexicographic.{pointwise}
use Rattle.std.specs.Hash as fed
use Rattle.std.specs.Hash.{HashWrites}
use Rattle.image_model.specs.Layout.{Layout, Fits, is_fitting}
use Rattle.image_model.specs.Grid.{Agree, grid_of}
use Rattle.image_model.specs.Rows.{rows}

-- both fit, and their grids agree by the pixel type's own equality
abbrev pub BothShow : {T : Type 0} → (T → T → Bool) → Layout T → Layout T → Type 0
BothShow eq k l = Fits k × Fits l × Agree eq (grid_of k) (grid_of l)

-- neither fits
abbrev pub NeitherFits : {T : Type 0} → Layout T → Layout T → Type 0
NeitherFits k l = (Fits k → ⊥) × (Fits l → ⊥)

-- layouts are alike if their sizes are equal, and either both show the same grid or neither fits
pub record Alike {T : Type 0} (eq : T → T → Bool) (k l : Layout T) : Type 0 where
  pub same_width : k.width ≡ l.width
  pub same_height : k.height ≡ l.height
  pub same_pixels : BothShow eq k l ⊎ NeitherFits k l

-- the same as a test
abbrev pub is_alike : {T : Type 0} → (T → T → Bool) → Layout T → Layout T → Bool
is_alike eq k l =
    (k.width == l.width) && ((k.height == l.height) && (if is_fitting k then is_fitting l && pointwise (pointwise eq) (rows k) (rows l) else not (is_fitting l)))

-- a hasher is fed the width and the height as `u32`, and then, where the layout fits, each row
abbrev pub fed_by : {T : Type 0} → (T → HashWrites) → Layout T → HashWrites
fed_by feed l = fed.u32 l.width ++ (fed.u32 l.height ++ (if is_fitting l then flat_map (flat_map feed) (rows l) else []))
