-- The mask is that of the lanes from here on, and what was read comes before what is left.
use Rattle.std.proofs.Common.{◌≡◌, ◌≤◌, ◌+◌, ◌-◌, ◌*◌, length, take, drop, map}
use Rattle.std.specs.Simd.Lanes.{mask_l, chunk}
use Rattle.texts.specs.Parts.{parts_of}
use Rattle.texts.specs.Reading.{pixel_of, each_of, with_front}
use Rattle.texts.specs.Digits.{is_other}
use Rattle.texts.proofs.pixels.first_pixels.Given as goal

abbrev pub invariant-loop-ends : goal.invariant-loop-ends
invariant-loop-ends g l = record {
  ends : l.ends ≡ mask_l (map is_other (chunk l.at (g.row.N - l.at) l.bytes));
  at : l.at ≤ g.row.N + 1;
  count : 2 * l.count ≤ l.at;
  len : length l.values ≡ length l.fn.values;
  read : with_front (take l.count l.values) (each_of pixel_of (parts_of l.separator (drop l.at l.bytes))) ≡ each_of pixel_of (parts_of l.separator l.bytes);
}

abbrev pub decreases-loop-ends : goal.decreases-loop-ends
decreases-loop-ends g l = g.row.N + 6 - l.at
