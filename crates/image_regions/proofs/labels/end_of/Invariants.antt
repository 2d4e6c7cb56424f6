use Rattle.std.proofs.Common.{ℕ, ◌≤◌, ◌<◌, true}
use Rattle.image_regions.proofs.labels.end_of.Given as goal

abbrev pub invariant-loop-column : goal.invariant-loop-column
invariant-loop-column g l = (u : ℕ) → l.fn.x ≤ u → u < l.column → goal.F-post g l.passes u true
