-- How many frames a list of edits was made from, as a line of it says.
use Rattle.std.specs.Prelude.{ℕ, ◌==◌, nat_eq, Bool, true, List, Option, Some, None, take, drop, codes, if◌then◌else◌}
use Rattle.std.specs.Cmp.Lexicographic.{pointwise}
use Rattle.std.specs.List.{list_all}
use Rattle.std.specs.Str.Lines.{strip_carriage_return}
use Rattle.texts.specs.Parts.{parts_of}
use Rattle.texts.specs.Reading.{number_of}

-- a line is these words, one space, and a number
abbrev pub mark : List ℕ
mark = codes "# frames "

abbrev pub count_in : List ℕ → Option ℕ
count_in line = if pointwise nat_eq (take 9 line) mark then number_of (strip_carriage_return (drop 9 line)) else None

abbrev pub agrees : ℕ → Option ℕ → Bool
agrees count None = true
agrees count (Some number) = count == number

-- no line names another number
abbrev pub says_none_else : ℕ → List ℕ → Bool
says_none_else count list = list_all (λ line. agrees count (count_in line)) (parts_of 10 list)
