-- The lines of a text.
use Rattle.std.specs.Prelude.{ℕ, List, [], Option}
use Rattle.std.specs.List.{slice_get}
use Rattle.std.specs.Option.{unwrap_or}

-- the line of this number, from 0
abbrev pub line_of : List (List ℕ) → ℕ → List ℕ
line_of lines number = unwrap_or (slice_get lines number) []

-- the text of a file, or no text where there is no file
abbrev pub text_or_none : Option (List ℕ) → List ℕ
text_or_none text = unwrap_or text []
