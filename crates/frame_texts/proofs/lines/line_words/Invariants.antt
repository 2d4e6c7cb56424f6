use Rattle.std.proofs.Common.{◌≡◌, ◌++◌, map, length}
use Rattle.frame_texts.specs.Lines.{line_words, words_left}
use Rattle.frame_texts.proofs.lines.line_words.Given as goal

-- the words so far, and those that are left
abbrev pub invariant-loop-word : goal.invariant-loop-word
invariant-loop-word l = map (λ w. w.now) l.words.items ++ words_left l.rest ≡ line_words l.line

abbrev pub decreases-loop-word : goal.decreases-loop-word
decreases-loop-word l = length (words_left l.rest)
