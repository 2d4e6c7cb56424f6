use Rattle.std.proofs.Common.{◌≡◌, ◌<◌, ◌≤◌, ◌+◌, ◌*◌, ℕ, slice_index, length, sum, take}
use Rattle.image_regions.proofs.counting.sums_up_to.Given as goal

abbrev pub invariant-loop-v : goal.invariant-loop-v
invariant-loop-v l = (length l.sums ≡ 256) × (l.sum ≡ sum (take l.v l.counts)) × (l.sum ≤ l.v * 18446744073709551615)
    × ((w : ℕ) → w < l.v → slice_index l.sums w ≡ sum (take (w + 1) l.counts))
