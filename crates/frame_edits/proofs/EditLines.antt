-- Lines of edits, by what their words are.
use Rattle.std.proofs.Common.{◌≡◌, ◌≢◌, ◌++◌, ℕ, Bool, true, false, List, [], ◌∷◌, Option, Some, None, refl, sym, ap, ◌∙◌}
use Rattle.std.specs.Option.{is_some, option_map}
use Rattle.texts.specs.Reading.{◌>>=◌}
use Rattle.frame_edits.specs.Edits.{Edits, edits}
use Rattle.frame_edits.specs.Lists.{WordsAre, edit_of, framing_of, steps_of, with_line, with_lines, with_one, with_words}
use Rattle.frame_edits.specs.Words.{Named}
use Rattle.frame_edits.specs.declared.found.Found.{Found}
use Rattle.frame_edits.specs.declared.found.Line.TheVariants.{Blank, Edit as One, Bad}
use Rattle.frame_edits.specs.declared.framing.Framing.{Framing}
use Rattle.frame_edits.specs.declared.words.Edit.{Edit}
use Rattle.frame_texts.specs.Lines.{line_words}
use Rattle.frame_edits.proofs.EditsEach.{none_of}

-- ---- one line

line_blank : (old : Edits) (line : List ℕ) → WordsAre (line_words line) Blank → with_line old line ≡ Some old
line_blank old line are = ap (with_words old) are

some_words : (old : Edits) (words : List (List ℕ)) → words ≢ [] → with_words old words ≡ with_one old words
some_words old [] some = absurd (some refl)
some_words old (w ∷ ws) some = refl

by_framing : (steps : List Edit) (framing : Option Framing) (words : List (List ℕ)) (found : Option Named) → edit_of words ≡ found → framing ≡ None → with_one (edits steps framing) words ≡ option_map (λ e. edits (steps ++ e.steps) e.framing) found
by_framing steps None words found is first = ap (option_map (λ e. edits (steps ++ e.steps) e.framing)) is
by_framing steps (Some f) words found is first = absurd cc

line_edit : (old : Edits) (line : List ℕ) (found : Found) → WordsAre (line_words line) (One found) → old.framing ≡ None → with_line old line ≡ Some (edits (old.steps ++ steps_of found) (framing_of found))
line_edit old line found are first = some_words old (line_words line) are.0 ∙ by_framing old.steps old.framing (line_words line) _ are.1 first

late_one : (steps : List Edit) (framing : Option Framing) (words : List (List ℕ)) → framing ≢ None → with_one (edits steps framing) words ≡ None
late_one steps None words late = absurd (late refl)
late_one steps (Some f) words late = refl

line_late : (old : Edits) (line : List ℕ) (found : Found) → WordsAre (line_words line) (One found) → old.framing ≢ None → with_line old line ≡ None
line_late old line found are late = some_words old (line_words line) are.0 ∙ late_one old.steps old.framing (line_words line) late

bad_one : (steps : List Edit) (framing : Option Framing) (words : List (List ℕ)) → edit_of words ≡ None → with_one (edits steps framing) words ≡ None
bad_one steps None words none = ap (option_map (λ e. edits (steps ++ e.steps) e.framing)) none
bad_one steps (Some f) words none = refl

line_bad : (old : Edits) (line : List ℕ) → WordsAre (line_words line) Bad → with_line old line ≡ None
line_bad old line are = some_words old (line_words line) are.0 ∙ bad_one old.steps old.framing (line_words line) are.1

-- ---- all lines: whether each is an edit doesn't depend on the steps before

abbrev Alike : List (List ℕ) → Type 0
Alike lines = (a b : List Edit) (framing : Option Framing) → is_some (with_lines (edits a framing) lines) ≡ is_some (with_lines (edits b framing) lines)

by_edit : (found : Option Named) (lines : List (List ℕ)) (a b : List Edit) → Alike lines
    → is_some (option_map (λ e. edits (a ++ e.steps) e.framing) found >>= λ new. with_lines new lines) ≡ is_some (option_map (λ e. edits (b ++ e.steps) e.framing) found >>= λ new. with_lines new lines)
by_edit None lines a b others = refl
by_edit (Some e) lines a b others = others (a ++ e.steps) (b ++ e.steps) e.framing

by_words : (words : List (List ℕ)) (lines : List (List ℕ)) (a b : List Edit) (framing : Option Framing) → Alike lines
    → is_some (with_words (edits a framing) words >>= λ new. with_lines new lines) ≡ is_some (with_words (edits b framing) words >>= λ new. with_lines new lines)
by_words [] lines a b framing others = others a b framing
by_words (w ∷ ws) lines a b None others = by_edit (edit_of (w ∷ ws)) lines a b others
by_words (w ∷ ws) lines a b (Some f) others = refl

alike : (lines : List (List ℕ)) → Alike lines
alike [] a b framing = refl
alike (line ∷ lines) a b framing = by_words (line_words line) lines a b framing (alike lines)

-- ---- the lines that are left, after one more

one_more : (framing : Option Framing) (new : Edits) (line : List ℕ) (lines : List (List ℕ)) (total : Bool) → with_line (edits [] framing) line ≡ Some new → is_some (with_lines (edits [] framing) (line ∷ lines)) ≡ total → is_some (with_lines (edits [] new.framing) lines) ≡ total
one_more framing new line lines total is so_far =
    alike lines [] new.steps new.framing ∙ sym (ap (λ (o : Option Edits). is_some (o >>= λ e. with_lines e lines)) is) ∙ so_far

stopped : (framing : Option Framing) (line : List ℕ) (lines : List (List ℕ)) (total : Bool) → with_line (edits [] framing) line ≡ None → is_some (with_lines (edits [] framing) (line ∷ lines)) ≡ total → total ≡ false
stopped framing line lines total none so_far = sym so_far ∙ ap (λ (o : Option Edits). is_some (o >>= λ e. with_lines e lines)) none

pub pass_blank : (framing : Option Framing) (line : List ℕ) (lines : List (List ℕ)) (total : Bool) → WordsAre (line_words line) Blank → is_some (with_lines (edits [] framing) (line ∷ lines)) ≡ total → is_some (with_lines (edits [] framing) lines) ≡ total
pass_blank framing line lines total are so_far = one_more framing (edits [] framing) line lines total (line_blank (edits [] framing) line are) so_far

pub pass_edit : (framing : Option Framing) (found : Found) (line : List ℕ) (lines : List (List ℕ)) (total : Bool) → WordsAre (line_words line) (One found) → framing ≡ None → is_some (with_lines (edits [] framing) (line ∷ lines)) ≡ total → is_some (with_lines (edits [] (framing_of found)) lines) ≡ total
pass_edit framing found line lines total are first so_far = one_more framing (edits ([] ++ steps_of found) (framing_of found)) line lines total (line_edit (edits [] framing) line found are first) so_far

pub stops_late : (framing : Option Framing) (found : Found) (line : List ℕ) (lines : List (List ℕ)) (total : Bool) → WordsAre (line_words line) (One found) → framing ≢ None → is_some (with_lines (edits [] framing) (line ∷ lines)) ≡ total → total ≡ false
stops_late framing found line lines total are late so_far = stopped framing line lines total (line_late (edits [] framing) line found are late) so_far

pub stops_bad : (framing : Option Framing) (line : List ℕ) (lines : List (List ℕ)) (total : Bool) → WordsAre (line_words line) Bad → is_some (with_lines (edits [] framing) (line ∷ lines)) ≡ total → total ≡ false
stops_bad framing line lines total are so_far = stopped framing line lines total (line_bad (edits [] framing) line are) so_far

-- ---- edits before the lines

there : (found : Option Edits) → is_some found ≡ true → found ≢ None
there None good = absurd cc
there (Some e) good = λ none. absurd cc

pub lines_good : (old : Edits) (framing : Option Framing) (lines : List (List ℕ)) → framing ≡ old.framing → is_some (with_lines (edits [] framing) lines) ≡ true → with_lines old lines ≢ None
lines_good old framing lines same good = there (with_lines old lines) (alike lines old.steps [] old.framing ∙ ap (λ f. is_some (with_lines (edits [] f) lines)) (sym same) ∙ good)

pub lines_bad : (old : Edits) (framing : Option Framing) (lines : List (List ℕ)) → framing ≡ old.framing → is_some (with_lines (edits [] framing) lines) ≡ false → with_lines old lines ≡ None
lines_bad old framing lines same bad = none_of (with_lines old lines) (alike lines old.steps [] old.framing ∙ ap (λ f. is_some (with_lines (edits [] f) lines)) (sym same) ∙ bad)
