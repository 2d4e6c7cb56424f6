use Rattle.std.proofs.Common.{◌≡◌, map, take}
use Rattle.frame_edits.specs.BoxCovers.{cover_of}
use Rattle.frame_edits.proofs.box_covers.cover_all.Given as goal

-- the covers of the boxes before this one
abbrev pub invariant-loop-tracked : goal.invariant-loop-tracked
invariant-loop-tracked l = l.covers.items ≡ map (cover_of l.style) (take l.tracked-index l.boxes)
