-- Bytes that are split at a separator, and the parts of them that are left.
use Rattle.std.specs.Prelude.{ℕ, List, [], Option, Some, None, ◌==◌}
use Rattle.std.specs.List.{slice_split}
use Rattle.std.specs.Borrow.{Bor}
use Rattle.texts.specs.declared.parts.Parts.{Parts}

-- the pieces of the bytes between separators: the empty list of bytes is one empty piece
abbrev pub parts_of : ℕ → List ℕ → List (List ℕ)
parts_of separator bytes = slice_split (λ b. b == separator) bytes

-- no part is left once there are no bytes, not even an empty one
abbrev pub parts_left_of : ℕ → Option (Bor (List ℕ)) → List (List ℕ)
parts_left_of separator None = []
parts_left_of separator (Some rest) = parts_of separator rest.now

-- the parts that are left
abbrev pub parts_left : Parts → List (List ℕ)
parts_left p = parts_left_of p.separator p.rest
