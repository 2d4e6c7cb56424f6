-- The pixels so far are counted.
use Rattle.std.proofs.Common.{◌≡◌, ◌≤◌, ◌/◌, length, take, count_by}
use Rattle.std.specs.List.{range_with_len}
use Rattle.image_ops.specs.PixelCounts.{has_value}
use Rattle.image_ops.proofs.pixel_counting.count_pixels_in_row.Given as goal

abbrev pub invariant-loop-x : goal.invariant-loop-x
invariant-loop-x g l = record {
  number : l.count ≡ count_by (has_value g.T.PartialEq.eq l.value l.row) (take l.x (range_with_len 0 (length l.row / length l.value)));
  within : l.count ≤ l.x;
}
