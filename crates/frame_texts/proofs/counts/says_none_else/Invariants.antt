use Rattle.std.proofs.Common.{◌≡◌, length}
use Rattle.std.specs.List.{list_all}
use Rattle.texts.specs.Parts.{parts_left}
use Rattle.frame_texts.specs.Counts.{count_in, agrees, says_none_else}
use Rattle.frame_texts.proofs.counts.says_none_else.Given as goal

-- the lines that are left decide
abbrev pub invariant-loop-line : goal.invariant-loop-line
invariant-loop-line l = list_all (λ line. agrees l.count (count_in line)) (parts_left l.lines) ≡ says_none_else l.count l.list

abbrev pub decreases-loop-line : goal.decreases-loop-line
decreases-loop-line l = length (parts_left l.lines)
