use Rattle.std.proofs.Common.{◌≡◌}
use Rattle.std.specs.List.{flat_map, range_with_len}
use Rattle.frame_edits.specs.Holds.{held_at}
use Rattle.frame_edits.proofs.holds.hold_all.Given as goal

-- what the boxes before this place become
abbrev pub invariant-loop-at : goal.invariant-loop-at
invariant-loop-at l = l.covers.items ≡ flat_map (held_at l.style l.hold l.boxes) (range_with_len 0 l.at)
