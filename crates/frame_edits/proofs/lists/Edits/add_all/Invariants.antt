use Rattle.std.proofs.Common.{◌≡◌, ◌-◌, ◌≤◌, ◌<◌, List, length, map, drop, None}
use Rattle.frame_edits.specs.Lists.{AreEdits, Adds, NeedsMemory, plain}
use Rattle.frame_edits.specs.Words.{Named}
use Rattle.frame_edits.specs.declared.lists.Edits.{Edits}
use Rattle.frame_edits.proofs.EditsEach.{Begins}
use Rattle.frame_edits.proofs.lists.Edits.add_all.Given as goal

-- edits that the words left are, are with those taken the edits that all words are
abbrev pub invariant-loop-at : goal.invariant-loop-at
invariant-loop-at l = record {
  front : Begins (plain l.initial.self) (plain l.self);
  within : l.at ≤ length l.words;
  same : l.at ≡ 0 → l.self.framing ≡ l.initial.self.framing;
  first : 0 < l.at → l.self.framing ≡ None → NeedsMemory l.initial.self.framing (map (λ w. w.now) l.words);
  more : (new : Edits) → Adds (drop l.at (map (λ w. w.now) l.words)) l.self new → Adds (map (λ w. w.now) l.words) l.initial.self new;
  less : (edits : List Named) → AreEdits edits l.initial.self.framing (map (λ w. w.now) l.words) → (rest : List Named) × AreEdits rest l.self.framing (drop l.at (map (λ w. w.now) l.words));
}

abbrev pub decreases-loop-at : goal.decreases-loop-at
decreases-loop-at l = length l.words - l.at
