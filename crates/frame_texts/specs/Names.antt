-- Words that name values.
use Rattle.std.specs.Prelude.{ℕ, if◌then◌else◌, List, [], ◌∷◌, Option, Some, None}
use Rattle.std.specs.Str.{bytes_eq}

-- the value of the first name that a word is
abbrev pub value_named : {A : Type 0} → List (List ℕ × A) → List ℕ → Option A
value_named [] word = None
value_named (name ∷ names) word = if bytes_eq word name.0 then Some name.1 else value_named names word
