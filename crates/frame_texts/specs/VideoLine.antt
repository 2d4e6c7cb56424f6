-- The line of a video with another size.
use Rattle.std.specs.Prelude.{ℕ, List, ◌∷◌, ◌++◌, ◌==◌, if◌then◌else◌, drop, slice_index, codes}
use Rattle.std.specs.List.{flat_map}
use Rattle.std.specs.Fmt.{decimal}
use Rattle.texts.specs.Parts.{parts_of}

-- a field after its space: those of the width and the height name the new ones
abbrev pub resized_field : ℕ → ℕ → List ℕ → List ℕ
resized_field width height field =
    if slice_index field 0 == 87 then 32 ∷ 87 ∷ decimal width
    else if slice_index field 0 == 72 then 32 ∷ 72 ∷ decimal height
    else 32 ∷ field

-- the fields after the first
abbrev pub resized_fields : ℕ → ℕ → List (List ℕ) → List ℕ
resized_fields width height fields = flat_map (resized_field width height) fields

-- the line with another size
abbrev pub resized : ℕ → ℕ → List ℕ → List ℕ
resized width height line = codes "YUV4MPEG2" ++ resized_fields width height (drop 1 (parts_of 32 line))
