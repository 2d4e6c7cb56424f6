use Rattle.std.proofs.Common.{◌≡◌, ◌<◌, ℕ, slice_index, ◌*◌, ◌≤◌, length, max, sum, take}
use Rattle.image_regions.specs.Levels.{level}
use Rattle.image_regions.proofs.equalizing.levels.Given as goal

abbrev pub invariant-loop-v : goal.invariant-loop-v
invariant-loop-v l = (length l.table ≡ 256) × (l.level * max (sum l.counts) 1 ≤ 255 * sum (take l.v l.counts))
    × ((w : ℕ) → w < l.v → slice_index l.table w ≡ level l.counts w)
