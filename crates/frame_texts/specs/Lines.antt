-- The lines of a list: their ends, their comments and their words.
use Rattle.std.specs.Prelude.{◌==◌, ◌||◌, ℕ, Bool, not, filter, List, [], ◌∷◌, Option, Some, None}
use Rattle.std.specs.List.{slice_split}
use Rattle.std.specs.Borrow.{Bor}
use Rattle.std.specs.Str.Lines.{strip_carriage_return}
use Rattle.texts.specs.Parts.{parts_of}
use Rattle.texts.specs.Reading.{is_nil}
use Rattle.frame_texts.specs.declared.lines.Words.{Words}

-- a space or a tab
abbrev pub is_white : ℕ → Bool
is_white b = b == 32 || b == 9

-- what comes before the first #, which begins a comment
abbrev pub front_of : List (List ℕ) → List ℕ
front_of [] = []
front_of (front ∷ others) = front

abbrev pub uncommented : List ℕ → List ℕ
uncommented line = front_of (parts_of 35 line)

-- the words of a line, with white space between them and around them; some systems end a line with a carriage return
abbrev pub line_words : List ℕ → List (List ℕ)
line_words line = filter (λ word. not (is_nil word)) (slice_split is_white (uncommented (strip_carriage_return line)))

-- the pieces of what is left of a line
abbrev pub pieces_left : Option (Bor (List ℕ)) → List (List ℕ)
pieces_left None = []
pieces_left (Some rest) = slice_split is_white rest.now

-- the words that are left of a line
abbrev pub words_left : Words → List (List ℕ)
words_left w = filter (λ word. not (is_nil word)) (pieces_left w.rest)
