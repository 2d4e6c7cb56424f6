use Rattle.std.proofs.Common.{◌-◌, ◌≤◌, List, length, map, drop}
use Rattle.frame_edits.specs.Lists.{AreEdits, HaveEdits}
use Rattle.frame_edits.specs.Words.{Named}
use Rattle.frame_edits.proofs.found.are_edits.Given as goal

-- the words that are left are edits exactly where all words are
abbrev pub invariant-loop-at : goal.invariant-loop-at
invariant-loop-at l = record {
  within : l.at ≤ length l.words;
  more : HaveEdits l.before (drop l.at (map (λ w. w.now) l.words)) → HaveEdits l.fn.framing (map (λ w. w.now) l.words);
  less : (es : List Named) → AreEdits es l.fn.framing (map (λ w. w.now) l.words) → HaveEdits l.before (drop l.at (map (λ w. w.now) l.words));
}

abbrev pub decreases-loop-at : goal.decreases-loop-at
decreases-loop-at l = length l.words - l.at
