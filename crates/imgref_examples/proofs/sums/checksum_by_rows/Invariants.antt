use Rattle.std.proofs.Common.{◌≡◌, ◌+◌, ◌%◌, ◌^◌, ◌<◌, sum}
use Rattle.std.specs.List.{flat_map}
use Rattle.imgref.specs.Rows.{refs_left}
use Rattle.imgref.specs.Words.{grid_pixels, ref_grid}
use Rattle.imgref_examples.proofs.sums.checksum_by_rows.Given as goal

abbrev pub invariant-loop-row : goal.invariant-loop-row
invariant-loop-row l =
    (goal.iterator-loop-row).can_next l.row-iterator × (goal.iterator-loop-row).is_finite l.row-iterator × (l.sum < 2 ^ 64) ×
    ((l.sum + sum (flat_map (λ r. r) (refs_left l.row-iterator))) % 2 ^ 64 ≡ sum (grid_pixels (ref_grid l.fn.image)) % 2 ^ 64)
