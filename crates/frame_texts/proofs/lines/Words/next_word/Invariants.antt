use Rattle.std.proofs.Common.{◌≡◌, length}
use Rattle.frame_texts.specs.Lines.{pieces_left, words_left}
use Rattle.frame_texts.proofs.lines.Words.next_word.Given as goal

-- only empty pieces were passed
abbrev pub invariant-loop-self : goal.invariant-loop-self
invariant-loop-self l = words_left l.self ≡ words_left l.initial.self

abbrev pub decreases-loop-self : goal.decreases-loop-self
decreases-loop-self l = length (pieces_left l.self.rest)
