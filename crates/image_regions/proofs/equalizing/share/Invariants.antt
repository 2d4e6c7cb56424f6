-- The levels so far are no greater, and the next one begins there.
use Rattle.std.proofs.Common.{◌≡◌, ◌+◌, ◌*◌, ◌-◌, ◌≤◌}
use Rattle.image_regions.proofs.equalizing.share.Given as goal

abbrev pub invariant-loop-level : goal.invariant-loop-level
invariant-loop-level l = (l.level * l.whole ≤ 255 * l.part) × (l.next ≡ (l.level + 1) * l.whole)

abbrev pub decreases-loop-level : goal.decreases-loop-level
decreases-loop-level l = 255 - l.level
